pub mod GroundLaws
pub mod NumberedLaws
pub mod OrderLaws
pub mod PathLaws
pub mod RangeLaws
pub mod TrailLaws
pub mod WayLaws
