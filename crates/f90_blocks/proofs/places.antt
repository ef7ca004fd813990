pub mod EarlierLaws
pub mod RisingLaws
pub mod Walks
pub mod OfForms
