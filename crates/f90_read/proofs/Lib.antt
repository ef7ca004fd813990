pub mod NumberLaws
pub mod StatementLaws
pub mod CheckLaws
pub mod TextLaws
pub mod HiddenLaws
pub mod ProgramLaws
pub mod F90Suits
pub mod OfSurroundings
