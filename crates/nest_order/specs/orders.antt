pub mod Emission
pub mod Graphs
pub mod Laws
pub mod Lists
pub mod Nests
pub mod Orders
pub mod Shapes
