pub mod Words
pub mod Targets
pub mod Steps
pub mod ReadResults
pub mod FaultTexts
pub mod OutcomeLines
