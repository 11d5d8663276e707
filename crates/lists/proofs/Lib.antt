pub mod CodeSteps
pub mod NamingSteps
