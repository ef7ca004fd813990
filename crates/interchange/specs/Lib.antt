pub mod Arranged
pub mod Chains
pub mod Laws
pub mod Moves
pub mod Orders
pub mod Reads
pub mod View
pub mod Worked
