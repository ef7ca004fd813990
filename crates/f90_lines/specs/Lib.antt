pub mod Marks
pub mod Parts
pub mod Standings
pub mod Readings
pub mod Views
