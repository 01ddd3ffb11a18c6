pub mod Counts
pub mod Digits
pub mod Faces
pub mod Records
pub mod Sheets
pub mod Steps
pub mod Verdicts
