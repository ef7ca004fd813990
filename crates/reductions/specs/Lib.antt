pub mod Same
pub mod Reading
pub mod Gathering
pub mod Finding
pub mod Reduced
pub mod View
