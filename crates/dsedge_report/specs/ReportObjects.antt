-- The object of JSON that says what the report of a marking and its verdict say, and how their lines are made of it.
-- Members stand in the order of their keys.
use Rattle.std.specs.Prelude.{ℕ, List, [], ◌∷◌, ◌++◌, codes, Option, None, Some, slice_index}
use Rattle.std.specs.Option.{option_map_or}
use Rattle.serde_json.specs.Data.{Data, member, no_members, null, number, object, string, unsigned}
use Rattle.serde_json.specs.Find.{get}
use Rattle.json_lines.specs.JsonLines.{count_data, count_keys, word_before, words_before, words_line}
use Rattle.ds_checker.specs.Acceptance.{Table}
use Rattle.ds_conditioner.specs.declared.report.Report.{Report}
use Rattle.run_audit.specs.declared.verdict.Verdict.{Verdict}
use Rattle.dsedge_audit.specs.AuditObjects.{verdict_data, verdict_keys}
use Rattle.dsedge_audit.specs.Audited.{verdict_line}
use Rattle.dsedge_report.specs.Reports.{lines_text, report_text}

-- the verdict on a run of a table, if there is one
abbrev pub judged_data : Table → Option Verdict → Data
judged_data t verdict = option_map_or (verdict_data t) verdict null

-- the packets and the bytes of a report's colour, by its number
abbrev pub share_data : Report → ℕ → Data
share_data r colour = count_data (slice_index r.packets colour) (slice_index r.bytes colour)

-- the counts of a report, with what is told of its colours and of its verdict
abbrev pub counted_data : Report → Data → Data → Data → Data → Data
counted_data r green yellow red verdict = object
    (member (codes "answer") (string (codes "mark"))
    (member (codes "dropped") (number (unsigned r.dropped))
    (member (codes "green") green
    (member (codes "marked") (number (unsigned r.marked))
    (member (codes "records") (number (unsigned r.records))
    (member (codes "red") red
    (member (codes "skipped") (number (unsigned r.skipped))
    (member (codes "unmatched") (number (unsigned r.unmatched))
    (member (codes "unverified") (number (unsigned r.unverified))
    (member (codes "verdict") verdict
    (member (codes "yellow") yellow no_members)))))))))))

-- the report of a marking over a table
abbrev pub report_data : Table → Report → Data
report_data t r = counted_data r (share_data r 0) (share_data r 1) (share_data r 2) (judged_data t r.verdict)

-- ---- the lines that it says

-- the line of a count, behind its name
abbrev pub count_in : List ℕ → Data → List ℕ
count_in key content = key ++ word_before (get key content) (codes "\n")

-- the line of a colour's packets and bytes, behind its name
abbrev pub share_of : Option Data → List ℕ
share_of None = codes "\n"
share_of (Some share) = words_before count_keys share (codes "\n")

abbrev pub share_in : List ℕ → Data → List ℕ
share_in key content = key ++ share_of (get key content)

-- the report's lines
abbrev pub report_lines_in : Data → List ℕ
report_lines_in content =
    lines_text (
    count_in (codes "records") content
    ∷ count_in (codes "marked") content
    ∷ count_in (codes "unmatched") content
    ∷ count_in (codes "skipped") content
    ∷ count_in (codes "unverified") content
    ∷ count_in (codes "dropped") content
    ∷ []
    )
    ++ lines_text (
    share_in (codes "green") content
    ∷ share_in (codes "yellow") content
    ∷ share_in (codes "red") content
    ∷ []
    )

-- the verdict's line, if there is one
abbrev pub judged_line_in : Data → List ℕ
judged_line_in content = option_map_or (words_line verdict_keys) (get (codes "verdict") content) []

-- the report's lines, and that of the verdict behind them
abbrev pub mark_lines_in : Data → List ℕ
mark_lines_in content = report_lines_in content ++ judged_line_in content

-- the lines of a report with its verdict, if there is one
abbrev pub mark_lines : Table → Report → List ℕ
mark_lines t r = report_text r ++ option_map_or (verdict_line t) r.verdict []
