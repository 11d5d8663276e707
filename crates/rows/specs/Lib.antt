pub mod Filling
pub mod Values
pub mod Rows
pub mod Signs
