pub mod gathering
pub mod unread
pub mod blocks
