pub mod Indices
pub mod Found
pub mod Passing
pub mod Breaches
pub mod Chain
pub mod Answers
