pub mod Texts
pub mod EndpointsOfPaths
