pub mod Chained
pub mod Counts
pub mod Told
mod Progress
