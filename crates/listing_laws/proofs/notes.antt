pub mod Printable
pub mod Notes
pub mod Phrases
pub mod Made
pub mod Arrays
pub mod Entries
pub mod Listed
