pub mod Standings
pub mod Names
