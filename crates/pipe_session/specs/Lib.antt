pub mod ExactAnswers
pub mod OneFunction
pub mod SubmittedBatchLaws
pub mod DirectCalls
pub mod DirectLaws
