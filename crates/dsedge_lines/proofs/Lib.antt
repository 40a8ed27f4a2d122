-- Lemmas on answers, on what is answered as a command goes on, on what fields say, and on what stands at a text's front.
pub mod AnswerLemmas
pub mod CourseLaws
pub mod FirstLineLemmas
pub mod FrontLemmas
pub mod QuantityLemmas
pub mod UnderwayLemmas
