pub mod AlikeLaws
pub mod GrowthLaws
pub mod CountLaws
pub mod LesserTables
pub mod LesserTerms
pub mod QuoteLaws
