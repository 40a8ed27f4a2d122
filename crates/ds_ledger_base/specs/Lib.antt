pub mod Lasting
pub mod Numbers
pub mod Replays
