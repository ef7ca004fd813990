pub mod Stacks
pub mod Complete
pub mod Placing
pub mod Sound
pub mod ReadingLaws
pub mod LiteralLaws
pub mod OfWords
