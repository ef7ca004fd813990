pub mod Ends
pub mod Found
pub mod Growing
pub mod Laws
pub mod Nests
pub mod Putting
pub mod Stores
pub mod Together
