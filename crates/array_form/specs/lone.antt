pub mod Cells
pub mod Composed
pub mod Instances
pub mod Known
