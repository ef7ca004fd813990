pub mod blocks
pub mod printed
pub mod read_back
pub mod readings
pub mod unique
pub mod unrefused
