pub mod Points
pub mod Gathered
pub mod Cuts
pub mod Pieces
pub mod Answers
pub mod Filled
pub mod Split
