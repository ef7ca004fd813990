pub mod Ranges
pub mod Renamed
