pub mod Loops
pub mod Trips
pub mod Forms
pub mod Statements
pub mod Instances
pub mod Following
pub mod Laws
pub mod Guarded
