pub mod Scanning
pub mod Symbols
pub mod Lexing
pub mod Tokens
pub mod Fronts
