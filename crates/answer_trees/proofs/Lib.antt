pub mod DistinctProcesses
pub mod NoFloat
pub mod PlacesByKeys
pub mod ProcessNames
mod WorkedTrees
