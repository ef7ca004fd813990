pub mod OneRun
pub mod MadeNames
