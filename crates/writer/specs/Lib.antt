pub mod Ready
pub mod Stored
