pub mod GraphsLaws
pub mod WritingLaws
pub mod DecisionsLaws
