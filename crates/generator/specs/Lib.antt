pub mod Decks
pub mod Draws
pub mod Statements
