pub mod Drawn
pub mod DrawnClaims
pub mod PictureCases
pub mod Pictured
