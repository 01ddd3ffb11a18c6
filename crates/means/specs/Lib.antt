-- What the contracts and claims on means cite.
pub mod Rounded
pub mod Means
pub mod MeansClaims
pub mod MeansCases
pub mod Rows
