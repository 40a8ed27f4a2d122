mod AddressLaws
pub mod CellLaws
pub mod SlashLaws
