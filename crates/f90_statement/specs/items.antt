pub mod Flat
pub mod Following
pub mod Commas
pub mod Depths
pub mod Views
pub mod Reading
pub mod parts
