pub mod RootPaths
pub mod Events
