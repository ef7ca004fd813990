pub mod Columns
pub mod FirstLines
pub mod Kept
pub mod Labels
pub mod ReadCards
