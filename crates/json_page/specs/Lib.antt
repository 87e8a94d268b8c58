pub mod Buffers
pub mod Page
