pub mod Parts
pub mod Numbers
pub mod Entries
pub mod Rejoined
