pub mod Cards
pub mod Reading77
pub mod Statement77
pub mod expressions
pub mod program
pub mod statements
pub mod syntax
