pub mod Parts
pub mod Lines
pub mod Words
pub mod Numbers
pub mod Levels
pub mod Codes
pub mod Reports
pub mod Reading
