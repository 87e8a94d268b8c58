pub mod Faults
pub mod Paths
pub mod QueryStrings
pub mod Numbers
pub mod Queries
pub mod ReadResults
pub mod Statuses
pub mod Responses
