-- Lemmas on figures, and on values whose texts are read as the same.
pub mod FigureLaws
pub mod WholeLaws
