pub mod AdoptedSpans
pub mod EntriesAtPlaces
pub mod TraceParts
pub mod TakenTraces
pub mod ProcessConditions
pub mod TakenSearch
pub mod CollectedCandidates
pub mod ProcessClasses
