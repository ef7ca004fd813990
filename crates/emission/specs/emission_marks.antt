pub mod Components
pub mod Marks
pub mod ByGraph
pub mod Laws
