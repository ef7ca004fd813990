pub mod HeldNames
pub mod NamedForms
pub mod StayedForms
pub mod SuitedForms
pub mod Texts
pub mod Walks
