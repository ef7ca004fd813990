pub mod Blocks
pub mod Ends
pub mod Labels
pub mod Order
