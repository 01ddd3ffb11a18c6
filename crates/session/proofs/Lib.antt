mod FirstWords
pub mod HeldLaws
pub mod Owed
pub mod Marked
pub mod Silent
