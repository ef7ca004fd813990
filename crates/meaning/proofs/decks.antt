pub mod Cuts
pub mod FirstLines
pub mod Parts
pub mod WholeLines
pub mod Written
