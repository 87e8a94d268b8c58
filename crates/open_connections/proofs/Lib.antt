pub mod Deliveries
pub mod OpenConnections
pub mod ConnectionRefusals
