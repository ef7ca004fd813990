pub mod lists
