pub mod ValueSteps
pub mod StoredLaws
pub mod FileSteps
