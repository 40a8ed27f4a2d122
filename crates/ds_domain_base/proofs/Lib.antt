pub mod DomainLaws
pub mod EntryLaws
pub mod NameLaws
pub mod RouteLaws
