pub mod arrays
pub mod dialects
pub mod inputs
pub mod profiles
pub mod worked_programs
