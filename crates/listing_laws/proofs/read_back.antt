pub mod Words
pub mod Made
pub mod Meetings
pub mod Arcs
pub mod Entries
pub mod Listed
pub mod SourceListings
