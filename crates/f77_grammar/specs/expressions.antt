pub mod Phrases
pub mod Printing
pub mod Reading
pub mod Spelling
pub mod Squeezing
pub mod Words
