pub mod CountLaws
pub mod PlaceLaws
