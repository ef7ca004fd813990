pub mod Labels
pub mod Placing
pub mod SourceNames
