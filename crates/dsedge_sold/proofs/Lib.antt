pub mod ListLaws
pub mod SoldLaws
