pub mod Blocks
pub mod Each
pub mod MadeNests
