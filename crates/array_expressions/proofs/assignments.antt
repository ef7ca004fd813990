pub mod Lacking
pub mod Planned
pub mod Storing
pub mod Cells
pub mod Looping
