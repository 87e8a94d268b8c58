pub mod FeederSteps
pub mod FedPieces
pub mod WaitingBytes
