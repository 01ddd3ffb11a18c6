-- The definitions that the contracts on differences cite.
pub mod Differences
pub mod AxisDifferences
pub mod Sound
