pub mod Arrays
pub mod Linking
pub mod Queue
