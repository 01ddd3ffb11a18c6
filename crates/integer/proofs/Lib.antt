-- The laws of integers that proofs cite, here and in the crates above, lowest first.
pub mod Decide
pub mod PartLaws
pub mod MultipleLaws
pub mod GcdLaws
pub mod Congruence
pub mod Meeting
pub mod ModularLaws
pub mod BoundedEquation
pub mod SignedEquation
