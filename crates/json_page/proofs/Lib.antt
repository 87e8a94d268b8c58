pub mod Escapes
pub mod HexIds
pub mod Pages
