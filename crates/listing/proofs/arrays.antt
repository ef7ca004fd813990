pub mod Counted
pub mod Elements
pub mod GuardedNames
pub mod Iterations
pub mod Left
pub mod Moved
pub mod References
