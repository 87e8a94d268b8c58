pub mod CallSteps
pub mod ReceivedTexts
