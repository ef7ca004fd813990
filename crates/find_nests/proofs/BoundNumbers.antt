pub mod Weights
pub mod Alike
pub mod Composing
pub mod Rounds
pub mod Forms
pub mod Limits
pub mod Law
