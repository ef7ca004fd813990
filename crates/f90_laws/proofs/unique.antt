mod Machine
mod Complete
pub mod Phrase
pub mod Lists
pub mod Items
pub mod Declarations
pub mod Balanced
pub mod Classes
pub mod Told
pub mod Forms
mod Symbols
pub mod Tokens
pub mod Statements
pub mod Pieces
pub mod Lines
