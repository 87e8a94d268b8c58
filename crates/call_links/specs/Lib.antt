pub mod ServiceRanks
pub mod NumberedCalls
pub mod LinkTallies
