pub mod Over
pub mod Listed
