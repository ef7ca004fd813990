pub mod Beside
pub mod Placed
pub mod Laws
