pub mod Names
pub mod Halves
pub mod JumpLaws
pub mod BodyLaws
pub mod Plain
pub mod Worked
