pub mod Branching
pub mod Places
pub mod Laws
pub mod Prepared
pub mod Found
