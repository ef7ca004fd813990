pub mod Blocks
pub mod Allocations
pub mod Bodies
pub mod Plain
pub mod View
pub mod statement_loops
