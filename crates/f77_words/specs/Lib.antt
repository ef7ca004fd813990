pub mod keywords
pub mod lists
