pub mod Lines
pub mod LineReads
pub mod ReadCounts
pub mod ExitStatuses
pub mod RunErrors
pub mod HandledLines
pub mod LineResults
