pub mod Constraints
pub mod IterationsLeft
pub mod Kept
pub mod Reductions
pub mod Lefts
pub mod Members
pub mod Learned
pub mod Groups
