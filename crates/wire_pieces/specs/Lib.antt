pub mod Pieces
pub mod Numbers
pub mod Heads
pub mod Strings
pub mod Lists
pub mod Frames
pub mod Skipped
