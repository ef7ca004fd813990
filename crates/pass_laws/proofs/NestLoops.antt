pub mod Standing
pub mod Exits
pub mod Increments
pub mod Lines
pub mod FoundRuns
