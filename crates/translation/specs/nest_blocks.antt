pub mod LoopAnswers
pub mod Answers
pub mod Blocks
pub mod Laws
pub mod Places
