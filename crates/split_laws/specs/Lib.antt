pub mod Pieces
pub mod Points
pub mod Cuts
pub mod Split
pub mod Loops
