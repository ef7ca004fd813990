pub mod Parsed
pub mod Joined
pub mod WordLaws
