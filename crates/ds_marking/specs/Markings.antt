-- The marked capture, as a function of the bytes of a capture.
use Rattle.std.specs.Prelude.{◌≡◌, ◌⊎◌, ℕ, List, [], ◌++◌, zip, Bool, true, false, Option, None, Some, Result, Ok, Err}
use Rattle.capture_reader.specs.Formats.{bytes_before}
use Rattle.moment_core.specs.declared.colour.Colour.{Colour}
use Rattle.pcap_capture.specs.Frames.{FrameValue}
use Rattle.capture_reader.specs.Formats.{capture, fault_in, opening_of}
use Rattle.pcap_capture.specs.declared.fault.PcapFault.{PcapFault}
use Rattle.pcap_capture.specs.declared.fault.PcapFault.TheVariants as pcaps
use Rattle.capture_reader.specs.declared.opening.Opening.{Opening}
use Rattle.ds_domain_base.specs.Domains.{is_port}
use Rattle.ds_checker.specs.Acceptance.{Table}
use Rattle.meter_fabric_base.specs.Grounds.{ground_of}
use Rattle.run_audit.specs.Runs.{Run}
use Rattle.run_audit.specs.Verdicts.{verdict_of}
use Rattle.run_audit.specs.declared.verdict.Verdict.{Verdict}
use Rattle.run_audit.specs.declared.verdict.Verdict.TheVariants.{Kept}
use Rattle.ds_conductor_base.specs.Passing.{colours_of}
use Rattle.ds_runs.specs.Behind.{IsBehind}
use Rattle.ds_runs.specs.Laws.{MarksAreSentColours}
use Rattle.ds_conductor_base.specs.declared.sent.Sent.{Sent}
use Rattle.ds_conditioner.specs.Reports.{nothing_read, report_of, with_verdict}
use Rattle.ds_conditioner.specs.Sendings.{see, sent_of}
use Rattle.ds_conditioner.specs.Texts.{text_from}
use Rattle.pcap_capture.specs.Fronts.{IsFrontOf}
use Rattle.ds_marking.specs.Writings.{is_write}
use Rattle.ds_marking.specs.declared.fault.MarkFault.{MarkFault}
use Rattle.ds_marking.specs.declared.fault.MarkFault.TheVariants as marks
use Rattle.ds_conditioner.specs.declared.report.Report.{Report}
use Rattle.ds_conditioner.specs.declared.rule.RedRule.{RedRule}

-- what is written, what is told, and what was sent
pub record Marking : Type 0 where
  pub text : List ℕ
  pub report : Report
  pub sent : List Sent

-- frames behind what stands before them, marked with the colours that their packets left with
abbrev pub marking_with : Table → List ℕ → RedRule → Opening → List FrameValue → List Sent → List Colour → Marking
marking_with t port red opening frames sent colours = record {
  text = bytes_before opening ++ text_from t red 0 frames (zip sent colours);
  report = report_of (see t port) red frames (zip sent colours);
  sent = sent;
}

-- the marking of frames that stand behind an opening
abbrev pub marking_of : Table → List ℕ → RedRule → Opening → List FrameValue → Marking
marking_of t port red opening frames =
    let sent = sent_of (see t port) frames in
    marking_with t port red opening frames sent (colours_of t sent)

-- without an opening there is nothing to mark
abbrev pub nothing_marked : Marking
nothing_marked = record { text = []; report = nothing_read; sent = [] }

abbrev pub marking_behind : Table → List ℕ → RedRule → Option (Result Opening PcapFault) → List FrameValue → Marking
marking_behind t port red (Some (Ok opening)) frames = marking_of t port red opening frames
marking_behind t port red (Some (Err fault)) frames = nothing_marked
marking_behind t port red None frames = nothing_marked

-- The marking of the bytes of a capture: of all records that stand in it whole, before the first fault.
abbrev pub marking_in : Table → List ℕ → RedRule → List ℕ → Marking
marking_in t port red bytes = marking_behind t port red (opening_of bytes) (capture bytes).frames

-- a marking whose report tells a verdict, as where a capture was marked to its end
abbrev pub judged : Verdict → Marking → Marking
judged verdict m = record m { report = with_verdict verdict m.report }

-- A verdict is that of the audit on a run behind packets that are sent: their visits made it, and each packet left its
-- last meter there with the colour that it is marked with. Where it is Kept, that is the colour that it was sent with.
pub record IsVerdictOn (t : Table) (sent : List Sent) (verdict : Verdict) : Type 0 where
  pub run : Run
  pub behind : IsBehind t sent run
  pub told : verdict ≡ verdict_of (ground_of t) run
  pub kept : verdict ≡ Kept → MarksAreSentColours t sent run

-- a marking was written whole behind what stood, and this is its report
pub record IsWhole (m : Marking) (report : Report) (before after : List ℕ) : Type 0 where
  pub written : after ≡ before ++ m.text
  pub told : report ≡ m.report

-- The device that takes bytes failed: a front of the marking of what was read is written, and its report is told.
pub record IsCutOff (marked : List ℕ → Marking) (bytes more before after : List ℕ) (report : Report) : Type 0 where
  pub read : List ℕ
  pub front : bytes ≡ read ++ more
  pub written : IsFrontOf before (marked read).text after
  pub told : report ≡ (marked read).report

-- Memory ran out: a front of the marking of what was read is written, and told is the report of those of its frames
-- that memory was there for. What is written is a front of the marking of these alone, so the report covers all of it.
pub record IsStarved (t : Table) (port : List ℕ) (red : RedRule) (bytes more before after : List ℕ) (report : Report)
    : Type 0 where
  pub read : List ℕ
  pub frames : List FrameValue
  pub others : List FrameValue
  pub front : bytes ≡ read ++ more
  pub parted : (capture read).frames ≡ frames ++ others
  pub written : IsFrontOf before (marking_in t port red read).text after
  pub covered : IsFrontOf before (marking_behind t port red (opening_of read) frames).text after
  pub told : report ≡ (marking_behind t port red (opening_of read) frames).report

-- The marking of the bytes that a device gave before it failed was written whole, and no fault stands in them.
pub record IsWholeSoFar (marked : List ℕ → Marking) (bytes more before after : List ℕ) (report : Report) : Type 0 where
  pub read : List ℕ
  pub front : bytes ≡ read ++ more
  pub sound : (capture read).fault ≡ None
  pub whole : IsWhole (marked read) report before after

-- The marking of the bytes of a capture was written whole, and this fault stands in them, or none.
pub record IsWholeWith (marked : List ℕ → Marking) (bytes before after : List ℕ) (report : Report)
    (fault : Option PcapFault) : Type 0 where
  pub whole : IsWhole (marked bytes) report before after
  pub stands : fault_in bytes ≡ fault

-- A capture was marked to its end: its marking was written whole, no fault stands in it, and told is the verdict on a
-- run behind what its frames sent.
pub record IsMarkedToItsEnd (t : Table) (marked : List ℕ → Marking) (bytes before after : List ℕ) (report : Report)
    : Type 0 where
  pub verdict : Verdict
  pub whole : IsWholeWith (λ read. judged verdict (marked read)) bytes before after report None
  pub behind : IsVerdictOn t (marked bytes).sent verdict

-- what was written, by the fault of the capture that came
abbrev pub IsMarkedBut : (List ℕ → Marking) → List ℕ → List ℕ → List ℕ → List ℕ → Report → PcapFault → Type 0
IsMarkedBut marked bytes more before after report pcaps.ReadFault = IsWholeSoFar marked bytes more before after report
IsMarkedBut marked bytes more before after report pcaps.WriteFault = IsCutOff marked bytes more before after report
IsMarkedBut marked bytes more before after report pcaps.NoMemory = ⊥
IsMarkedBut marked bytes more before after report fault =
    IsWholeWith marked bytes before after report (Some fault)

-- What was written behind what stood, and what is answered, for the bytes that a device had and those that it still
-- has: all of the marked capture, up to its end, with the verdict on a run behind it, or to the first fault that stands
-- in it; or all of what the device gave before it failed; or a front, where the other device failed or memory ran out.
abbrev pub IsMarkedAs : Table → List ℕ → RedRule → List ℕ → List ℕ → List ℕ → List ℕ
    → Result Report (Report × MarkFault) → Type 0
IsMarkedAs t port red bytes more before after (Ok report) =
    IsMarkedToItsEnd t (marking_in t port red) bytes before after report
IsMarkedAs t port red bytes more before after (Err (report, marks.Capture fault)) =
    IsMarkedBut (marking_in t port red) bytes more before after report fault
IsMarkedAs t port red bytes more before after (Err (report, marks.UnknownPort)) = ⊥
IsMarkedAs t port red bytes more before after (Err (report, marks.JournalFull)) = ⊥
IsMarkedAs t port red bytes more before after (Err (report, marks.NoMemory)) =
    IsStarved t port red bytes more before after report

-- nothing was written, since there is no such port
abbrev pub IsWithoutPort : List ℕ → List ℕ → Result Report (Report × MarkFault) → Type 0
IsWithoutPort before after answer = (after ≡ before) × (answer ≡ Err (nothing_read, marks.UnknownPort))

-- What `mark` wrote, and what it answers: an unknown port is told before anything is read, and else the capture is
-- marked at the port.
abbrev pub IsMarked : Table → List ℕ → RedRule → List ℕ → List ℕ → List ℕ → List ℕ → Result Report (Report × MarkFault)
    → Type 0
IsMarked t port red bytes more before after answer =
    ((is_port t.domain port ≡ false) × IsWithoutPort before after answer)
    ⊎ ((is_port t.domain port ≡ true) × IsMarkedAs t port red bytes more before after answer)

-- whether the marked capture could not be written
abbrev pub is_unwritten : Result Report (Report × MarkFault) → Bool
is_unwritten (Err (report, marks.Capture fault)) = is_write fault
is_unwritten _ = false

abbrev pub is_read : PcapFault → Bool
is_read pcaps.ReadFault = true
is_read _ = false

-- whether the capture could not be read
abbrev pub is_unread : Result Report (Report × MarkFault) → Bool
is_unread (Err (report, marks.Capture fault)) = is_read fault
is_unread _ = false

-- whether the marking was broken off: the marked capture could not be written, or memory ran out
abbrev pub is_broken_off : Result Report (Report × MarkFault) → Bool
is_broken_off (Err (report, marks.Capture pcaps.WriteFault)) = true
is_broken_off (Err (report, marks.Capture pcaps.NoMemory)) = true
is_broken_off (Err (report, marks.JournalFull)) = true
is_broken_off (Err (report, marks.NoMemory)) = true
is_broken_off _ = false

-- the answer to frames that were marked, by what ended the reading of their capture
abbrev pub answer_of : Verdict → Report → Option PcapFault → Result Report (Report × MarkFault)
answer_of verdict report None = Ok (with_verdict verdict report)
answer_of verdict report (Some fault) = Err (report, marks.Capture fault)
