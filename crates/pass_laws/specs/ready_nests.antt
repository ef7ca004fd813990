pub mod Distinct
pub mod Trips
pub mod Ready
