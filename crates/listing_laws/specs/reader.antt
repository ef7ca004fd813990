pub mod Laws
pub mod Listable
pub mod Lists
pub mod Reader
