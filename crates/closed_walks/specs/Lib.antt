pub mod Cycles
pub mod Distances
pub mod FlatComponents
pub mod Laws
pub mod OwnPairs
pub mod Walks
