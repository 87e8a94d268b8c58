pub mod Queues
pub mod Seats
pub mod Denials
pub mod Turns
pub mod Books
pub mod EntryPlaceLaws
pub mod LiveStores
pub mod LiveLaws
