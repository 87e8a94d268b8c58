pub mod ServerEnds
pub mod SessionPieces
pub mod Workers
