pub mod Pairs
pub mod Given
pub mod Blocks
pub mod Translations
pub mod Cycles
