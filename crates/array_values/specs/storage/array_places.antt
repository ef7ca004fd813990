pub mod Places
pub mod Selecting
pub mod Writing
