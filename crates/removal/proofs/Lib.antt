pub mod LinkingSteps
pub mod TallyLaws
pub mod FirstQueueSteps
pub mod QueueSteps
pub mod PeelSteps
pub mod RunSteps
