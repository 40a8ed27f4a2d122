-- What a domain text says, or its first fault.
pub mod ContractEntries
pub mod ContractViews
pub mod DomainTexts
pub mod Keys
pub mod Kinds
pub mod OfferedTexts
pub mod Parts
pub mod Rules
pub mod SectionViews
pub mod Sections
pub mod Terms
