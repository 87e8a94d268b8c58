pub mod ReadEffects
pub mod UnsentResponses
pub mod BufferedConnections
pub mod OpenConnections
pub mod ConnectionRefusals
