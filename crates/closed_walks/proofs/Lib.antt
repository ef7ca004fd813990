pub mod Answering
pub mod Components
pub mod FlatComponents
pub mod Loops
pub mod MoreWalks
pub mod OwnPairs
pub mod Theory
