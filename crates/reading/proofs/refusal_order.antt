pub mod Answered
pub mod Least
