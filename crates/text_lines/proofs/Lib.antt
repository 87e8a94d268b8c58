pub mod Feeds
pub mod LineEnds
pub mod TakenLines
pub mod Buffers
pub mod ReadCounts
pub mod HandledLines
pub mod CompleteRuns
pub mod LineResults
