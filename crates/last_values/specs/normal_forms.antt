pub mod Steps
pub mod Combinations
pub mod NormalLoops
pub mod LastValues
pub mod LastTexts
pub mod Texts
pub mod Numbers
