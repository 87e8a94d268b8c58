pub mod Journals
pub mod JournalInvariants
pub mod Times
pub mod TagBits
pub mod KindTexts
pub mod Outlines
