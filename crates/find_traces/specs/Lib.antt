pub mod FoundIndices
pub mod Keys
pub mod BestKeys
pub mod RequestedPairs
pub mod PreparedSearches
