pub mod AppendedEntries
pub mod MoreTagBits
pub mod NonStringTexts
pub mod ItemsAtPlaces
pub mod MoreSpans
