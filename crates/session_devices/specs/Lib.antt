pub mod ByteTransfers
pub mod Traffic
