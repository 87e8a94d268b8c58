pub mod RowPlaces
pub mod Sizes
pub mod IdRows
pub mod IdProbes
