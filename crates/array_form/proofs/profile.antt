pub mod Texts
pub mod Among
pub mod Placed
pub mod Formed
pub mod Assigned
