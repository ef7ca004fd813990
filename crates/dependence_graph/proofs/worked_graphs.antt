mod Keys
mod OneLoop
mod Pairs
mod OneAnswer
mod Couples
mod Merging
pub mod Worked
pub mod Squares
