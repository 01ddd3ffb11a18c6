pub mod Dense
pub mod Strides
