pub mod Steps
pub mod Laws
pub mod Pairs
pub mod Written
