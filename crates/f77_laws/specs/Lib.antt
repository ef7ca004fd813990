pub mod FirstFinding
pub mod Reading
pub mod Source
pub mod SourceCards
pub mod kinds
pub mod trees
