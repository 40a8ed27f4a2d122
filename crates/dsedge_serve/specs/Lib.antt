-- What the program does for a plan.
pub mod Advised
pub mod Explained
pub mod Marked
pub mod Served
pub mod Spoken
pub mod Started
pub mod Told
