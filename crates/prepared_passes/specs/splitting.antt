pub mod Splits
pub mod Kept
pub mod Laws
pub mod Elements
