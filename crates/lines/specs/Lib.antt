pub mod Lines
pub mod Ended
pub mod Pieces
pub mod Mark
