pub mod calls
pub mod kinds
