pub mod There
pub mod Form
