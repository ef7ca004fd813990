pub mod Reduced
pub mod Meaning
pub mod Profile
