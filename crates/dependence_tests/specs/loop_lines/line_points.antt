pub mod Bezout
pub mod Lines
pub mod Quotient
pub mod Stretch
pub mod Least
pub mod Crossings
