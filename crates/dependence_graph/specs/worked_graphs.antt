pub mod Listed
pub mod Merges
pub mod Nests
