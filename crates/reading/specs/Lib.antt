pub mod Characters
pub mod Signs
pub mod refusal_order
