pub mod ReferenceLaws
pub mod FormLaws
pub mod OccurrenceLaws
