pub mod PassLaws
pub mod Alike
pub mod Names
pub mod Shifting
pub mod Forms
pub mod Placing
pub mod Standings
