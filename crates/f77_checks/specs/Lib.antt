pub mod First
pub mod Known
pub mod Limits
pub mod Outcomes
pub mod kinds
