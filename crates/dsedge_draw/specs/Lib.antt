-- Domains drawn.
pub mod Bars
pub mod Drawings
pub mod Ways
