pub mod Laws
pub mod Translated
