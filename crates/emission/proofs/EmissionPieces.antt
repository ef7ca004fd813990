pub mod Lists
pub mod Emitted
pub mod Ordered
