mod ExtentLaws
mod NameLaws
mod ElementLaws
mod PartLaws
mod BlockLaws
mod Places
mod Values
pub mod Changes
mod Statements
mod Bodies
pub mod Theorems
mod KindLaws
pub mod PrivateLaws
mod Flowing
pub mod Covers
pub mod Endings
pub mod Trips
mod Worked
