pub mod Laws
pub mod Prepared
