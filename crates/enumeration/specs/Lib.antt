-- The definitions that the contracts of the enumeration cite.
pub mod Homes
pub mod Sound
pub mod Parts
pub mod Enumeration
