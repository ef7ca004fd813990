pub mod Behind
pub mod Order
pub mod Nests
