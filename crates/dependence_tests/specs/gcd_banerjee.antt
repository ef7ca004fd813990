pub mod Divisors
pub mod Extremes
pub mod Least
pub mod Terms
