pub mod CommandLemmas
pub mod PlanLemmas
