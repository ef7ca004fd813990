pub mod Unfinished
pub mod Reading
pub mod Printing
