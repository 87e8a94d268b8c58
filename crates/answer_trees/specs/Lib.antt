pub mod ProcessNames
pub mod ProcessNumbers
pub mod ProcessPlaces
pub mod TreeMembers
pub mod Trees
pub mod TraceProcesses
