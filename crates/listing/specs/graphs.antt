pub mod Lines
pub mod Listing
pub mod Order
pub mod Words
