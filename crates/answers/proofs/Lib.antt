pub mod Formed
pub mod Emitted
