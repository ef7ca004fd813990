pub mod ScanningLaws
pub mod RunLaws
pub mod LexingLaws
pub mod WordsLaws
pub mod CharsLaws
