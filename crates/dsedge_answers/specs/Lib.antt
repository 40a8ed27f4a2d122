-- Answers of texts.
pub mod Replies
