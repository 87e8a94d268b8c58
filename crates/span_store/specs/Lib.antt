pub mod ShownStarts
pub mod StoreIndexes
pub mod NextEntry
pub mod CollectedAnswers
pub mod FoundAnswers
pub mod StoreSearches
