pub mod StandingLaws
pub mod FramedLaws
pub mod ComparingLaws
pub mod SummingLaws
pub mod ReadingSteps
pub mod LeadLaws
