pub mod Hosts
pub mod LentSpans
pub mod LentReferences
pub mod KnownClocks
pub mod KnownDeltas
pub mod SpanDeltas
