pub mod Composed
pub mod Giving
pub mod Instances
pub mod Known
pub mod Safe
