pub mod Composed
pub mod Limits
pub mod Loops
pub mod Walks
pub mod Arms
pub mod Terms
pub mod View
pub mod Numbers
