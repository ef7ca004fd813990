pub mod Words
pub mod ReadStatements
