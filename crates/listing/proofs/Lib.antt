pub mod TextLaws
pub mod TextSteps
pub mod LineLaws
pub mod ListingLaws
