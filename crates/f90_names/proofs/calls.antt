pub mod HidingLaws
pub mod CallLaws
pub mod FormlessLaws
