pub mod orders
pub mod runs
