pub mod CountedCalls
pub mod ServiceTables
pub mod ServiceNumbers
pub mod Pairs
pub mod TalliesByName
