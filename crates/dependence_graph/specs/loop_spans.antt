pub mod Greatest
pub mod Ends
