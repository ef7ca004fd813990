pub mod Places
pub mod OneLoop
pub mod Verdicts
pub mod line_points
