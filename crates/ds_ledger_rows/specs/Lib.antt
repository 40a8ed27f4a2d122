pub mod Cells
pub mod Sound
