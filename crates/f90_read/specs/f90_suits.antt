pub mod Known
pub mod Ready
pub mod Suited
