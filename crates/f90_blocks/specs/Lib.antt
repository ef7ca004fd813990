pub mod Rests
pub mod Targets
pub mod Treed
pub mod places
pub mod statement_trees
pub mod structure
