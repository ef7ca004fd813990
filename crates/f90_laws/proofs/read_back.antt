pub mod DeclaredNames
pub mod PrintedIsRead
pub mod OneProgram
