pub mod Values
pub mod Acts
pub mod Runs
pub mod NamesIn
pub mod MadeNames
