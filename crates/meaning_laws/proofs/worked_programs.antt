mod Computing
pub mod Sections
pub mod Masks
pub mod ArrayFunctions
pub mod Constructors
pub mod Allocations
pub mod Stages
