pub mod Instances
pub mod Elements
pub mod Assignments
pub mod Forms
pub mod OneToOne
