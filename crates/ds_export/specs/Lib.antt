pub mod Made
pub mod Remade
