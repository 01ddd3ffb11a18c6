pub mod Texts
pub mod Words
pub mod Spelled
pub mod Shown
