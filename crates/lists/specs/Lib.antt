pub mod Listed
pub mod Naming
