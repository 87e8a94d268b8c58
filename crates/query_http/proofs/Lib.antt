pub mod RouteWalks
pub mod PathParts
pub mod EndpointsAreFound
pub mod Digits
pub mod TagLoops
pub mod PartTexts
pub mod PathLaws
