use Rattle.std.proofs.Common.{◌≡◌, ◌++◌, drop, flat_map, map}
use Rattle.meter_book.specs.Chapters.{chapter_rows}
use Rattle.meter_book.specs.Kept.{stored_of}
use Rattle.meter_book.proofs.gathering.rows_in.Given as goal

-- the rows so far, and those of the chapters that are left
abbrev pub invariant-loop-chapter : goal.invariant-loop-chapter
invariant-loop-chapter l =
    l.rows.items ++ flat_map (λ c. map stored_of (chapter_rows c)) (map (λ c. c.now) (drop l.chapter-index l.chapters))
    ≡ flat_map (λ c. map stored_of (chapter_rows c)) (map (λ c. c.now) l.chapters)
