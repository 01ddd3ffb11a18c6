-- What the contracts and claims on copying cite.
pub mod Sheets
pub mod Copy
pub mod CopyClaims
pub mod CopyCases
