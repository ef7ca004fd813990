pub mod Cycles
pub mod Each
pub mod Graphs
pub mod Nests
pub mod Reading
