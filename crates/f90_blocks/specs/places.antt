pub mod First
pub mod Rising
pub mod forms
