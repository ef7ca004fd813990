pub mod Holds
pub mod Answering
pub mod NumberLaws
pub mod Placed
pub mod SoFar
pub mod Listed
pub mod Blocks
