pub mod Propositions
pub mod Opening
pub mod Suiting
pub mod Statements
pub mod Machine
