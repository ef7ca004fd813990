pub mod Keeping
pub mod Leading
pub mod Mapped
pub mod Rounds
pub mod Statements
