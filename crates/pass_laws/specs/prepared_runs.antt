pub mod Laws
pub mod Running
pub mod Unlabelled
pub mod Allocations
