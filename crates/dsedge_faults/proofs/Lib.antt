pub mod AdviceLemmas
pub mod FrontLemmas
