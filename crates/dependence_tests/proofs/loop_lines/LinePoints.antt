pub mod Ring
pub mod Quotients
pub mod Steps
pub mod Floors
pub mod PointsOfLine
pub mod Meetings
pub mod Leasts
pub mod Cramer
