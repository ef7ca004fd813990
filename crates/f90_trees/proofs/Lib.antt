pub mod BuildingLaws
pub mod CallLaws
pub mod Stacks
pub mod HidingLaws
pub mod BuildLaws
pub mod CheckLaws
pub mod TreeLaws
pub mod CalledLaws
