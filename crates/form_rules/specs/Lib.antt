pub mod Written
pub mod Replacement
