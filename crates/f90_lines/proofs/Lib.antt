pub mod MarkLaws
pub mod PartLaws
pub mod StandingLaws
pub mod StatementLaws
