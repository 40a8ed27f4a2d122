pub mod CutLaws
pub mod GrammarLaws
pub mod OptionLaws
pub mod OwnLaws
pub mod ReadingLaws
pub mod StampLaws
pub mod TakingLaws
