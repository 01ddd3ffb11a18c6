pub mod Held
pub mod LineLaws
pub mod Taken
pub mod SoFar
pub mod Front
