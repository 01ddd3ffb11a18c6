-- The definitions that contracts and the specification cite.
pub mod Range
pub mod Parts
pub mod Multiple
pub mod Gcd
pub mod Congruence
pub mod Equation
