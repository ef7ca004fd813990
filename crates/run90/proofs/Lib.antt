pub mod ProgramLaws
pub mod Keeping
pub mod Going
pub mod Allocating
pub mod Ending
