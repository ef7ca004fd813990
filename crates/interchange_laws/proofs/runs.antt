pub mod Acts
pub mod Arcs
pub mod Countable
pub mod Counted
pub mod Deciding
pub mod Law
pub mod OtherNest
