-- The lines of a report, by their parts.
use Rattle.std.proofs.Common.{◌≡◌, ℕ, List, [], ◌++◌, refl, append_assoc, codes, decimal, slice_index}
use Rattle.ds_conditioner.specs.declared.report.Report.{Report}
use Rattle.dsedge_report.specs.Reports.{colours_text, counts_text}

-- a line with a count, and what stands behind it
count_on : (name number digits rest tail : List ℕ) → number ≡ digits → rest ≡ tail
    → name ++ (number ++ (codes "\n" ++ rest)) ≡ name ++ digits ++ codes "\n" ++ tail
count_on name number digits rest tail is behind = rw (is, behind) (simp append_assoc)

-- a line with two counts, and what stands behind it
counts_on : (name packets first bytes second rest tail : List ℕ) → packets ≡ first → bytes ≡ second → rest ≡ tail
    → name ++ (packets ++ (codes " " ++ (bytes ++ (codes "\n" ++ rest)))) ≡ name ++ first ++ codes " " ++ second ++ codes "\n" ++ tail
counts_on name packets first bytes second rest tail is_first is_second behind = rw (is_first, is_second, behind) (simp append_assoc)

-- the lines of a report's counts, by their parts
pub counts_line_of : (r : Report) (records marked unmatched skipped unverified dropped : List ℕ) → records ≡ decimal r.records → marked ≡ decimal r.marked
    → unmatched ≡ decimal r.unmatched → skipped ≡ decimal r.skipped → unverified ≡ decimal r.unverified → dropped ≡ decimal r.dropped
    → codes "records " ++ (records ++ (codes "\n" ++ (codes "marked " ++ (marked ++ (codes "\n" ++ (codes "unmatched " ++ (unmatched ++ (codes "\n"
    ++ (codes "skipped " ++ (skipped ++ (codes "\n" ++ (codes "unverified " ++ (unverified ++ (codes "\n" ++ (codes "dropped " ++ (dropped ++ (codes "\n" ++ [])))))))))))))))))
    ≡ counts_text r
counts_line_of r records marked unmatched skipped unverified dropped is_records is_marked is_unmatched is_skipped is_unverified is_dropped =
    count_on (codes "records ") records (decimal r.records) _ _ is_records
    (count_on (codes "marked ") marked (decimal r.marked) _ _ is_marked
    (count_on (codes "unmatched ") unmatched (decimal r.unmatched) _ _ is_unmatched
    (count_on (codes "skipped ") skipped (decimal r.skipped) _ _ is_skipped
    (count_on (codes "unverified ") unverified (decimal r.unverified) _ _ is_unverified
    (count_on (codes "dropped ") dropped (decimal r.dropped) [] [] is_dropped refl)))))

-- the lines of a report's accounts, by their parts
pub colours_line_of : (r : Report) (green green_bytes yellow yellow_bytes red red_bytes : List ℕ) → green ≡ decimal (slice_index r.packets 0)
    → green_bytes ≡ decimal (slice_index r.bytes 0) → yellow ≡ decimal (slice_index r.packets 1) → yellow_bytes ≡ decimal (slice_index r.bytes 1)
    → red ≡ decimal (slice_index r.packets 2) → red_bytes ≡ decimal (slice_index r.bytes 2)
    → codes "green " ++ (green ++ (codes " " ++ (green_bytes ++ (codes "\n" ++ (codes "yellow " ++ (yellow ++ (codes " " ++ (yellow_bytes ++ (codes "\n"
    ++ (codes "red " ++ (red ++ (codes " " ++ (red_bytes ++ (codes "\n" ++ []))))))))))))))
    ≡ colours_text r
colours_line_of r green green_bytes yellow yellow_bytes red red_bytes is_green is_green_bytes is_yellow is_yellow_bytes is_red is_red_bytes =
    counts_on (codes "green ") green (decimal (slice_index r.packets 0)) green_bytes (decimal (slice_index r.bytes 0)) _ _ is_green is_green_bytes
    (counts_on (codes "yellow ") yellow (decimal (slice_index r.packets 1)) yellow_bytes (decimal (slice_index r.bytes 1)) _ _ is_yellow is_yellow_bytes
    (counts_on (codes "red ") red (decimal (slice_index r.packets 2)) red_bytes (decimal (slice_index r.bytes 2)) [] [] is_red is_red_bytes refl))
