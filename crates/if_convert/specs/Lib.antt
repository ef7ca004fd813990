pub mod Masks
pub mod Jumps
pub mod Points
pub mod Converted
pub mod Arms
pub mod Laws
