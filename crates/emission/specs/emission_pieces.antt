pub mod Levels
pub mod Nests
pub mod Edges
pub mod Pieces
pub mod Emission
pub mod Cycles
pub mod Shapes
pub mod Laws
