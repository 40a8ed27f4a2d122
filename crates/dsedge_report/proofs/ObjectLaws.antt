-- The object of a report has no float, nests two deep at most, and makes the lines.
use Rattle.std.proofs.Common.{◌≡◌, ℕ, ◌≤◌, max, suc, false, List, [], ◌∷◌, ◌++◌, codes, Option, None, Some, append_assoc, refl, ap, ◌∙◌, arith}
use Rattle.std.specs.Prelude.{slice_index}
use Rattle.std.specs.Option.{option_map_or}
use Rattle.std.proofs.lemmas.Bool.Decides.{nat_tests}
use Rattle.serde_json.specs.Data.{Data, depth}
use Rattle.serde_json.specs.Read.{max_depth}
use Rattle.serde_json.specs.Written.{has_float}
use Rattle.json_lines.specs.JsonLines.{count_data, count_keys, words_before, words_line}
use Rattle.json_lines.proofs.FigureLaws.{count_nests, count_plain, figure_said}
use Rattle.ds_checker.specs.Acceptance.{Table}
use Rattle.ds_conditioner.specs.declared.report.Report.{Report}
use Rattle.run_audit.specs.declared.verdict.Verdict.{Verdict}
use Rattle.dsedge_audit.specs.AuditObjects.{verdict_keys}
use Rattle.dsedge_audit.specs.Audited.{verdict_line}
use Rattle.dsedge_audit.proofs.ObjectLaws.{verdict_flat, verdict_plain, verdict_says}
use Rattle.dsedge_report.specs.Reports.{colours_text, counts_line, counts_text, lines_text, report_text}
use Rattle.dsedge_report.specs.ReportObjects.{counted_data, judged_data, mark_lines, mark_lines_in, report_data, report_lines_in, share_data}

-- ---- no float

judged_plain : (t : Table) (verdict : Option Verdict) → has_float (judged_data t verdict) ≡ false
judged_plain t None = refl
judged_plain t (Some verdict) = verdict_plain t verdict

counted_plain : (r : Report) (green yellow red verdict : Data) → has_float green ≡ false → has_float yellow ≡ false → has_float red ≡ false → has_float verdict ≡ false
    → has_float (counted_data r green yellow red verdict) ≡ false
counted_plain r green yellow red verdict pg py pr pv = rw (pg, pr, pv, py) refl

share_plain : (r : Report) (colour : ℕ) → has_float (share_data r colour) ≡ false
share_plain r colour = count_plain (slice_index r.packets colour) (slice_index r.bytes colour)

pub report_plain : (t : Table) (r : Report) → has_float (report_data t r) ≡ false
report_plain t r =
    counted_plain r (share_data r 0) (share_data r 1) (share_data r 2) (judged_data t r.verdict) (share_plain r 0) (share_plain r 1) (share_plain r 2) (judged_plain t r.verdict)

-- ---- two deep

judged_flat : (t : Table) (verdict : Option Verdict) → depth (judged_data t verdict) ≤ 1
judged_flat t None = omega arith
judged_flat t (Some verdict) = rw (verdict_flat t verdict) (omega arith)

-- how deep the members of a report nest, by how deep its verdict does
abbrev deepest : ℕ → ℕ
deepest n = max 0 (max 0 (max 1 (max 0 (max 0 (max 1 (max 0 (max 0 (max 0 (max n (max 1 0))))))))))

counted_nests : (r : Report) (green yellow red verdict : Data) → depth green ≡ 1 → depth yellow ≡ 1 → depth red ≡ 1
    → depth (counted_data r green yellow red verdict) ≡ suc (deepest (depth verdict))
counted_nests r green yellow red verdict ng ny nr = rw (ng, nr, ny) refl

max_below : (a b c : ℕ) → a ≤ c → b ≤ c → max a b ≤ c
max_below a b c ha hb = grind (arith, nat_tests)

none : 0 ≤ 1
none = omega arith

one : 1 ≤ 1
one = omega arith

deepest_below : (n : ℕ) → n ≤ 1 → deepest n ≤ 1
deepest_below n h =
    max_below 0 _ 1 none (max_below 0 _ 1 none (max_below 1 _ 1 one (max_below 0 _ 1 none (max_below 0 _ 1 none (max_below 1 _ 1 one
    (max_below 0 _ 1 none (max_below 0 _ 1 none (max_below 0 _ 1 none (max_below n _ 1 h (max_below 1 0 1 one none))))))))))

deep_enough : (n : ℕ) → n ≤ 1 → suc n ≤ max_depth
deep_enough n h = omega (arith, h)

share_nests : (r : Report) (colour : ℕ) → depth (share_data r colour) ≡ 1
share_nests r colour = count_nests (slice_index r.packets colour) (slice_index r.bytes colour)

pub report_shallow : (t : Table) (r : Report) → depth (report_data t r) ≤ max_depth
report_shallow t r =
    rw (counted_nests r (share_data r 0) (share_data r 1) (share_data r 2) (judged_data t r.verdict) (share_nests r 0) (share_nests r 1) (share_nests r 2))
    (deep_enough (deepest (depth (judged_data t r.verdict))) (deepest_below (depth (judged_data t r.verdict)) (judged_flat t r.verdict)))

-- ---- the lines

share_said : (name : List ℕ) (packets bytes : ℕ) → name ++ words_before count_keys (count_data packets bytes) (codes "\n") ≡ counts_line (name ++ codes " ") packets bytes
share_said name packets bytes = rw (figure_said bytes, figure_said packets) (simp append_assoc)

three_lines : (a b c d e f : List ℕ) → a ≡ d → b ≡ e → c ≡ f → lines_text (a ∷ b ∷ c ∷ []) ≡ lines_text (d ∷ e ∷ f ∷ [])
three_lines a b c d e f first second third = rw (first, second, third) refl

abbrev said_as : List ℕ → Report → ℕ → List ℕ
said_as name r colour = name ++ words_before count_keys (share_data r colour) (codes "\n")

shares_said : (r : Report) → lines_text (said_as (codes "green") r 0 ∷ said_as (codes "yellow") r 1 ∷ said_as (codes "red") r 2 ∷ []) ≡ colours_text r
shares_said r = three_lines (said_as (codes "green") r 0) (said_as (codes "yellow") r 1) (said_as (codes "red") r 2)
    (counts_line (codes "green ") (slice_index r.packets 0) (slice_index r.bytes 0)) (counts_line (codes "yellow ") (slice_index r.packets 1) (slice_index r.bytes 1))
    (counts_line (codes "red ") (slice_index r.packets 2) (slice_index r.bytes 2))
    (share_said (codes "green") (slice_index r.packets 0) (slice_index r.bytes 0))
    (share_said (codes "yellow") (slice_index r.packets 1) (slice_index r.bytes 1)) (share_said (codes "red") (slice_index r.packets 2) (slice_index r.bytes 2))

report_said : (t : Table) (r : Report) → report_lines_in (report_data t r) ≡ report_text r
report_said t r = ap (λ text. counts_text r ++ text) (shares_said r)

judged_said : (t : Table) (verdict : Option Verdict) → words_line verdict_keys (judged_data t verdict) ≡ option_map_or (verdict_line t) verdict []
judged_said t None = refl
judged_said t (Some verdict) = verdict_says t verdict

pub report_says : (t : Table) (r : Report) → mark_lines_in (report_data t r) ≡ mark_lines t r
report_says t r =
    ap (λ text. text ++ words_line verdict_keys (judged_data t r.verdict)) (report_said t r)
    ∙ ap (λ line. report_text r ++ line) (judged_said t r.verdict)
