pub mod Complete
pub mod ControlLaws
pub mod ListLaws
pub mod Neutral
pub mod Paths
pub mod Sound
pub mod Stacks
