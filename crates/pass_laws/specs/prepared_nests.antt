pub mod Loops
pub mod Statements
pub mod Made
pub mod After
pub mod Branches
pub mod Nests
pub mod Laws
