pub mod Words
pub mod Least
mod LabelDecks
mod NestingDecks
mod EndDoDecks
mod ImplicitNoneDecks
mod NameDecks
mod KindDecks
mod JumpDecks
mod LimitDecks
