pub mod FirstPlacesAreWithin
pub mod Warnings
