pub mod conversion
pub mod symbols
pub mod substitution
pub mod renaming
pub mod expansion
pub mod arrangement
pub mod splitting
