pub mod Lists
pub mod Signs
pub mod Edges
pub mod References
pub mod Tables
pub mod Instances
pub mod Vectors
pub mod Complete
