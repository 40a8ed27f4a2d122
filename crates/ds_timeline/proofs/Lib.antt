pub mod ConstantLaws
pub mod NumberedLaws
pub mod ReservedLaws
