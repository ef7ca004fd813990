pub mod Vectors
pub mod Leading
