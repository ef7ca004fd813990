pub mod facts
pub mod orders
pub mod runs
pub mod shapes
