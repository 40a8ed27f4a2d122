pub mod Exported
pub mod Words
