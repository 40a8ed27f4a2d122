-- The lines of a report of a marking.
use Rattle.std.specs.Prelude.{ℕ, List, [], ◌∷◌, ◌++◌, flat_map, codes, decimal, slice_index}
use Rattle.ds_conditioner.specs.declared.report.Report.{Report}

-- a line with a count, behind its name
abbrev pub count_line : List ℕ → ℕ → List ℕ
count_line name count = name ++ decimal count ++ codes "\n"

-- a line with two counts, behind their name
abbrev pub counts_line : List ℕ → ℕ → ℕ → List ℕ
counts_line name packets bytes = name ++ decimal packets ++ codes " " ++ decimal bytes ++ codes "\n"

-- lines, one behind the other
abbrev pub lines_text : List (List ℕ) → List ℕ
lines_text lines = flat_map (λ line. line) lines

-- the frames of a report, counted by what became of them
abbrev pub counts_text : Report → List ℕ
counts_text r = lines_text (
    count_line (codes "records ") r.records
    ∷ count_line (codes "marked ") r.marked
    ∷ count_line (codes "unmatched ") r.unmatched
    ∷ count_line (codes "skipped ") r.skipped
    ∷ count_line (codes "unverified ") r.unverified
    ∷ count_line (codes "dropped ") r.dropped
    ∷ []
    )

-- its packets and their bytes by colour
abbrev pub colours_text : Report → List ℕ
colours_text r = lines_text (
    counts_line (codes "green ") (slice_index r.packets 0) (slice_index r.bytes 0)
    ∷ counts_line (codes "yellow ") (slice_index r.packets 1) (slice_index r.bytes 1)
    ∷ counts_line (codes "red ") (slice_index r.packets 2) (slice_index r.bytes 2)
    ∷ []
    )

abbrev pub report_text : Report → List ℕ
report_text r = counts_text r ++ colours_text r
