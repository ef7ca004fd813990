pub mod Appending
pub mod Locals
pub mod Scopes
pub mod assignments
pub mod transfers
