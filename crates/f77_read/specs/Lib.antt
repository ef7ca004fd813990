pub mod Cards
pub mod Outcomes
pub mod one_answer
