pub mod Lacking
pub mod Selected
pub mod Printed
