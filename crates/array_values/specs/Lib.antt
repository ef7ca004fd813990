pub mod Answers
pub mod Arrays
pub mod Counts
pub mod Masks
pub mod Positions
pub mod Selections
pub mod storage
