pub mod Turns
pub mod Loops
pub mod OneLoop
pub mod Counted
pub mod Trips
pub mod NormalLoops
