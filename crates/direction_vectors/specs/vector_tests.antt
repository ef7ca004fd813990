pub mod Refs
pub mod Pairs
pub mod Ways
pub mod Words
pub mod Places
