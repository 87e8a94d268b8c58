pub mod StructSteps
pub mod ItemSteps
pub mod NewLists
pub mod ReadingInPlace
