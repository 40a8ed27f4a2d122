-- Lemmas on what lines say, and on answers a line at a time.
pub mod ArrivalLemmas
pub mod MeteredLaws
pub mod VerdictLaws
pub mod FrontLemmas
pub mod FigureLemmas
