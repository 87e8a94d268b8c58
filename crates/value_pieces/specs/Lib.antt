pub mod ContinuedCalls
pub mod Values
pub mod LeastBytes
pub mod ShortValueLaws
