pub mod Sizes
pub mod Symbols
pub mod Counters
pub mod Bounds
pub mod Numbers
pub mod BoundNumbers
pub mod LoopNumbers
pub mod Chains
