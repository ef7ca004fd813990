pub mod Answering
pub mod WordLaws
pub mod Zivs
