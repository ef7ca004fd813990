pub mod Acts
pub mod Assigning
pub mod Canonised
pub mod KeptRuns
pub mod Loops
pub mod Mapped
pub mod Rounds
pub mod Ruled
