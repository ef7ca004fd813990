pub mod FormsLeftOut
pub mod Fronts
pub mod Kinds
pub mod Listed
pub mod Outside
pub mod Parentheses
