pub mod Passing
pub mod Steady
pub mod Frames
pub mod Beside
pub mod Placing
