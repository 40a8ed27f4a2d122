pub mod ByteLaws
pub mod ChecksumLaws
pub mod CodePointLaws
pub mod HeaderLaws
pub mod Ipv6Laws
pub mod MarkLaws
pub mod UpdateLaws
