pub mod Counted
pub mod NameFacts
pub mod Seen
pub mod UsesView
pub mod constants
