pub mod RefusalSteps
pub mod MarkSteps
pub mod KeySteps
pub mod TableSteps
