pub mod Sound
pub mod Walk
pub mod Marks
pub mod Jumps
pub mod Found
