pub mod VisitingSteps
pub mod AssigningSteps
pub mod RankingSteps
pub mod ArrangingLaws
