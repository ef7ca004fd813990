pub mod CardLaws
pub mod TextLaws
pub mod Answers
pub mod SourceLaws
