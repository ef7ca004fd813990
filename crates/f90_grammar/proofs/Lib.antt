pub mod FreeFormDecks
pub mod PrintingLaws
pub mod RefusalDecks
