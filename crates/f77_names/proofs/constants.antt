pub mod DeclarationLaws
pub mod NameOrder
pub mod NarrowLaws
pub mod SizeLaws
pub mod StoreLaws
pub mod ValueLaws
