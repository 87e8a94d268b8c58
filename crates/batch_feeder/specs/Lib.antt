pub mod FeederResults
pub mod FeederAnswers
