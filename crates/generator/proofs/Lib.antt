pub mod DeckTexts
pub mod DrawLaws
