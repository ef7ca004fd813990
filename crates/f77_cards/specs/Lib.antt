pub mod Card
pub mod Left
pub mod Source
