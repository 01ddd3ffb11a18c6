-- The laws of differences, lowest first.
pub mod BoxLaws
pub mod VectorLaws
mod Advancing
pub mod DistanceLaws
pub mod ZeroVector
mod Apart
pub mod Meeting
