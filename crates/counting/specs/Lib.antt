pub mod Below
pub mod Lists
pub mod Larger
pub mod Widths
pub mod Holds
pub mod Wrote
