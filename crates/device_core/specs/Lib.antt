pub mod Doubles
pub mod RteMeter
pub mod Police
pub mod Devices
