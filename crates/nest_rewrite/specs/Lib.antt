pub mod Rewritten
pub mod Statements
pub mod Assembled
