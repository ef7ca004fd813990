pub mod Profiles
pub mod Forward
pub mod Values
pub mod Stores
pub mod Faults
