pub mod WorkerSeats
pub mod ServerRuns
pub mod WorkerConnections
