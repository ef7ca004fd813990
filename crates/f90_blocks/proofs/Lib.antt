pub mod TargetLaws
pub mod Closed
pub mod Growth
pub mod RestLaws
pub mod Steps
pub mod Named
pub mod Walks
pub mod StatementTrees
