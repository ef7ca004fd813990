pub mod notes
pub mod prepared
pub mod read_back
pub mod reader
pub mod told_nests
