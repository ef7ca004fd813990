pub mod Endings
pub mod Cuts
pub mod Bodies
pub mod Ways
pub mod Ahead
pub mod Wrong
pub mod Misplaced
