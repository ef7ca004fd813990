mod AddedTexts
mod Choices
mod Counting
mod Elements
mod LeftSides
mod Names
pub mod ReadLaws
