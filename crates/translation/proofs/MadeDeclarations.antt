pub mod Placing
pub mod Made
