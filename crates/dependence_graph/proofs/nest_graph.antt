pub mod Worked
pub mod Completing
pub mod Filled
