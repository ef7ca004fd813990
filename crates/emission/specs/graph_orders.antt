pub mod Nests
pub mod Arcs
pub mod Laws
