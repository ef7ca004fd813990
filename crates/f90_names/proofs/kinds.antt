pub mod Counts
pub mod Exact
pub mod FoundNameLaws
pub mod KindLaws
pub mod KnownLaws
pub mod StatementLaws
pub mod OfDeclarations
