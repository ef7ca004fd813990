pub mod PrintingLaws
pub mod SourceLaws
