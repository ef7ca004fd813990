pub mod Choice
pub mod Counts
pub mod Reads
pub mod Arrays
pub mod Split
pub mod View
