pub mod Lists
pub mod Misuses
pub mod Jumps
pub mod Misplaced
