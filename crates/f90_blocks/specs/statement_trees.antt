pub mod Trees
pub mod Held
pub mod Executable
pub mod Lists
pub mod Results
pub mod Uncut
