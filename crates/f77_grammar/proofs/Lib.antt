pub mod Answered
pub mod CardCauses
pub mod CardLaws
pub mod FirstLine
pub mod Grouping
mod WorkedCards
pub mod expressions
pub mod programs
