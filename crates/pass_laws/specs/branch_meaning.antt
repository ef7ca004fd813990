pub mod Jumps
pub mod Sources
pub mod Laws
