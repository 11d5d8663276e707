pub mod ListsLaws
pub mod TakenSteps
pub mod Printed
