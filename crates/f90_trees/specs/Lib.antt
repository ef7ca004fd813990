pub mod Building
pub mod Calls
pub mod Views
pub mod CallViews
pub mod Hiding
pub mod Trees
