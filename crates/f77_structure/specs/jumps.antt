pub mod Blocks
pub mod LabelTargets
pub mod LoopVariables
pub mod Misuses
pub mod Targets
