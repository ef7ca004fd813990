pub mod Left
pub mod Names
pub mod Marks
pub mod Whole
