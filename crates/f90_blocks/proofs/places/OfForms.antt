pub mod FormLaws
pub mod MarkLaws
