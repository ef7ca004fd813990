pub mod Depth
pub mod Lasts
pub mod Leads
pub mod Misuses
pub mod OpenArms
pub mod Rounds
