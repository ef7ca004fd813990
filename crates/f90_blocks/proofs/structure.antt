pub mod Earlier
pub mod OpenBlocks
pub mod Walks
