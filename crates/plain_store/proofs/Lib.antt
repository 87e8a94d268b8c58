pub mod RootPaths
pub mod FoundAnswers
pub mod Events
pub mod HintNames
