pub mod Lists
pub mod Walks
pub mod Parts
pub mod Blocks
pub mod Bodies
pub mod Marked
pub mod Pieces
pub mod Together
