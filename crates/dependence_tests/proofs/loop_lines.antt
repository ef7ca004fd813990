pub mod Loops
pub mod Indexed
pub mod Crossings
pub mod Cutting
pub mod Pairs
pub mod LinePoints
