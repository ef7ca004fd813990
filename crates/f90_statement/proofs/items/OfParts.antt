pub mod VariableLaws
pub mod BoundLaws
