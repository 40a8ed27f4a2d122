pub mod Acts
pub mod Faults
pub mod Histories
pub mod Pages
pub mod Rules
