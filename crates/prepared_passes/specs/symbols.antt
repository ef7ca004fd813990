pub mod Sources
pub mod Same
pub mod Laws
