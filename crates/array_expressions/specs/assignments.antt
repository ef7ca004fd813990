pub mod Propositions
pub mod Causes
pub mod Moments
pub mod Placing
pub mod Loops
pub mod Planning
