pub mod Steps
pub mod FilledBytes
pub mod HeadSteps
pub mod StringSteps
pub mod FieldSteps
pub mod ListSteps
pub mod SkipSteps
