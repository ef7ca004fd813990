pub mod Hiding
pub mod Calls
pub mod Formless
