pub mod Flat
pub mod Machine
pub mod Views
pub mod Reading
pub mod Literals
pub mod words
