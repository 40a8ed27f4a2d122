-- Lemmas on classifiers, and on frames that were seen.
pub mod ClassifierLaws
pub mod PieceLaws
pub mod SeenLaws
