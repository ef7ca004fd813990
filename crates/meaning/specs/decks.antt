pub mod FirstLine
pub mod Parts
