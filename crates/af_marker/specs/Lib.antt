pub mod Checksums
pub mod CodePoints
pub mod Fields
pub mod Headers
pub mod Ipv6Headers
pub mod Marks
pub mod Summaries
