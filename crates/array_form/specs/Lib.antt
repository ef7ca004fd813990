pub mod Loops
pub mod Statement
pub mod Subscripts
pub mod Texts
pub mod forms
pub mod holds
pub mod lone
pub mod profile
