pub mod Laws
pub mod MadeNames
pub mod Passes
pub mod Shifted
pub mod Standings
pub mod Symbols
pub mod Texts
