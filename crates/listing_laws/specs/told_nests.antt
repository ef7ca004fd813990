pub mod Graphs
pub mod Laws
pub mod Nests
pub mod Parts
