pub mod arrays
pub mod graphs
pub mod programs
