pub mod PlaceWalks
pub mod MarkedRows
pub mod Sizes
pub mod DistinctRows
pub mod IdProbes
