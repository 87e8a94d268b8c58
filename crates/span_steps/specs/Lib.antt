pub mod SpanConditions
pub mod Warnings
