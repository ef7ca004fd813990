pub mod Moments
pub mod Values
pub mod Printing
pub mod Machine
