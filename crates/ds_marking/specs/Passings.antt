-- What stands while a capture is marked, piece by piece.
use Rattle.std.specs.Prelude.{◌≡◌, ◌⊎◌, ◌<◌, ◌≤◌, ℕ, List, [], ◌++◌, zip, Bool, true, false, Option, None, Some, Result, Ok, Err, IfErr, IfOk, if◌then◌else◌, MatchResult}
use Rattle.capture_reader.specs.Formats.{bytes_before}
use Rattle.pcap_capture.specs.Counts.{IsOfReads}
use Rattle.pcap_capture.specs.Fronts.{IsFrontOf}
use Rattle.pcap_capture.specs.Frames.{FrameValue}
use Rattle.capture_reader.specs.Formats.{capture, opening_of}
use Rattle.pcap_capture.specs.declared.fault.PcapFault.{PcapFault}
use Rattle.pcap_capture.specs.declared.fault.PcapFault.TheVariants as pcaps
use Rattle.run_audit.specs.declared.verdict.Verdict.{Verdict}
use Rattle.ds_checker.specs.Acceptance.{Table}
use Rattle.ds_conductor_base.specs.Passing.{colours_of}
use Rattle.ds_conditioner.specs.Conditionings.{IsBounded, IsConditioned, IsPortOf, IsUndecided, see_at}
use Rattle.ds_marking.specs.Markings.{IsMarked, IsMarkedAs, IsVerdictOn, IsWhole, Marking, answer_of, is_broken_off, is_read, is_unread}
use Rattle.ds_domain_base.specs.Domains.{is_port}
use Rattle.capture_reader.specs.Readings.{IsReadOn, IsReading, IsUnderway, is_starved}
use Rattle.ds_conditioner.specs.Reports.{report_of}
use Rattle.ds_conditioner.specs.Sendings.{sent_of}
use Rattle.ds_conditioner.specs.Texts.{text_from}
use Rattle.ds_marking.specs.Writings.{IsBreak, IsWrittenTo}
use Rattle.ds_conditioner.specs.declared.conditioner.Conditioner.{Conditioner}
use Rattle.ds_marking.specs.declared.fault.MarkFault.{MarkFault}
use Rattle.ds_marking.specs.declared.fault.MarkFault.TheVariants as marks
use Rattle.ds_conditioner.specs.declared.rule.RedRule.{RedRule}
use Rattle.ds_marking.specs.declared.marking.Passage.{Passage}
use Rattle.ds_marking.specs.declared.marking.Turn.{Turn}
use Rattle.ds_marking.specs.declared.marking.Turn.TheVariants.{Ended, More}
use Rattle.ds_conditioner.specs.declared.port.Port.{Port}
use Rattle.ds_conditioner.specs.declared.report.Report.{Report}
use Rattle.capture_reader.specs.declared.reading.Progress.{Progress}

-- More may come: all frames that were read are seen, and of the text of those that were handed out a front is written
-- and the rest is collected.
pub record IsOnTheWay (p : Port) (bytes more before now : List ℕ) (progress : Progress) (c : Conditioner) (out : List ℕ)
    : Type 0 where
  pub frames : List FrameValue
  pub text : List ℕ
  pub underway : IsUnderway frames bytes more progress
  pub headed : progress.opening ≡ Some p.opening
  pub conditioned : IsConditioned p true frames text c
  pub written : IsWrittenTo out before (bytes_before p.opening ++ text) now

-- The capture ended, or its reading did, by this fault: all its frames are seen.
pub record IsThrough (p : Port) (bytes more before now : List ℕ) (c : Conditioner) (out : List ℕ)
    (fault : Option PcapFault) : Type 0 where
  pub frames : List FrameValue
  pub text : List ℕ
  pub well : ¬ (fault ≡ Some pcaps.NoMemory)
  pub writable : ¬ (fault ≡ Some pcaps.WriteFault)
  pub ended : IsReading bytes more (Some p.opening) frames fault
  pub conditioned : IsConditioned p true frames text c
  pub written : IsWrittenTo out before (bytes_before p.opening ++ text) now

-- The device that takes bytes failed, or memory ran out: of the frames that were read those at the front are seen, and
-- a front of the text of those that were handed out is written.
pub record IsBrokenOff (p : Port) (bytes more before now : List ℕ) (c : Conditioner) (fault : MarkFault) : Type 0 where
  pub read : List ℕ
  pub frames : List FrameValue
  pub others : List FrameValue
  pub text : List ℕ
  pub front : bytes ≡ read ++ more
  pub headed : opening_of read ≡ Some (Ok p.opening)
  pub parted : (capture read).frames ≡ frames ++ others
  pub all : fault ≡ marks.Capture pcaps.WriteFault → others ≡ []
  pub conditioned : IsConditioned p true frames text c
  pub written : IsFrontOf before (bytes_before p.opening ++ text) now

-- what a turn comes to
abbrev pub IsTurned : Port → List ℕ → List ℕ → List ℕ → List ℕ → Progress → Conditioner → List ℕ → Result Turn MarkFault
    → Type 0
IsTurned p bytes more before now progress c out (Ok More) = IsOnTheWay p bytes more before now progress c out
IsTurned p bytes more before now progress c out (Ok (Ended fault)) = IsThrough p bytes more before now c out fault
IsTurned p bytes more before now progress c out (Err fault) = IsBrokenOff p bytes more before now c fault

-- and all turns
abbrev pub IsTurnedOut : Port → List ℕ → List ℕ → List ℕ → List ℕ → Conditioner → List ℕ
    → Result (Option PcapFault) MarkFault → Type 0
IsTurnedOut p bytes more before now c out (Ok fault) = IsThrough p bytes more before now c out fault
IsTurnedOut p bytes more before now c out (Err fault) = IsBrokenOff p bytes more before now c fault

-- what a turn that is not broken off comes to is no want of memory, nor a fault of the writing
abbrev pub IsWell : Turn → Type 0
IsWell turn = (¬ (turn ≡ Ended (Some pcaps.WriteFault))) × (¬ (turn ≡ Ended (Some pcaps.NoMemory)))

-- nothing that is decided is left to be written
abbrev pub IsAllWritten : Conditioner → List ℕ → Type 0
IsAllWritten c out = (out ≡ []) × IsUndecided c

-- What writing the frames that are decided comes to, whatever was written of what came before them: they are handed
-- out, and their text is written, but for what is left of it; or a front of it is.
abbrev pub IsWrittenOn : {T E : Type 0} → Result T E → Port → Bool → Conditioner → Conditioner → List ℕ → List ℕ
    → List ℕ → List ℕ → Type 0
IsWrittenOn result p more old new out left held now =
    (frames : List FrameValue) (text before : List ℕ) → IsConditioned p more frames text old
    → IsWrittenTo out before (bytes_before p.opening ++ text) held → MatchResult result
    (λ _. (after : List ℕ) × IsConditioned p more frames after new
    × IsWrittenTo left before (bytes_before p.opening ++ after) now)
    (λ _. (after : List ℕ) × IsConditioned p more frames after new
    × IsFrontOf before (bytes_before p.opening ++ after) now)

-- whether it is told that the device that gives bytes could not be read
abbrev pub is_unread_by : Option PcapFault → Bool
is_unread_by None = false
is_unread_by (Some fault) = is_read fault

abbrev pub is_unread_in : Turn → Bool
is_unread_in More = false
is_unread_in (Ended fault) = is_unread_by fault

-- the marking of frames at a port
abbrev pub marking_at : Port → List FrameValue → Marking
marking_at p frames =
    let coloured = zip (sent_of (see_at p) frames) (colours_of p.accepted.now (sent_of (see_at p) frames)) in
    record {
      text = bytes_before p.opening ++ text_from p.accepted.now p.red 0 frames coloured;
      report = report_of (see_at p) p.red frames coloured;
      sent = sent_of (see_at p) frames;
    }

-- What is answered to frames whose reading ended by a fault, or not: that with the report of their marking, which is
-- written whole, and with the verdict on what they sent; or a fault of the writing, where a front of it is.
abbrev pub IsFinished : Table → Marking → Option PcapFault → List ℕ → List ℕ → Result Report (Report × MarkFault)
    → Type 0
IsFinished t m fault before after answer =
    ((verdict : Verdict) × IsVerdictOn t m.sent verdict × IsWhole m m.report before after
    × (answer ≡ answer_of verdict m.report fault))
    ⊎ ((unwritten : MarkFault) × IsBreak unwritten × IsFrontOf before m.text after
    × (answer ≡ Err (m.report, unwritten)))

-- what a capture becomes at a port of this name
abbrev pub IsMarkedAt : Port → List ℕ → List ℕ → List ℕ → List ℕ → List ℕ → Result Report (Report × MarkFault) → Type 0
IsMarkedAt p name bytes more before after answer =
    IsMarkedAs p.accepted.now name p.red bytes more before after answer

-- What a turn comes to whose reading ended by this fault: want of memory breaks the marking off.
abbrev pub turned_by : PcapFault → Result Turn MarkFault
turned_by fault = if is_starved fault then Err marks.NoMemory else Ok (Ended (Some fault))

-- a passage through which more can be read
pub record IsReady (passage : Passage) : Type 0 where
  pub missing : passage.progress.missing ≤ 24
  pub bounded : IsBounded passage.conditioner

-- and still can
pub record IsReadyAfter (before after : Passage) : Type 0 where
  pub missing : after.progress.missing ≤ before.progress.missing
  pub bounded : IsBounded after.conditioner

-- more may come through a passage
abbrev pub IsPassing : List ℕ → List ℕ → List ℕ → List ℕ → Passage → Type 0
IsPassing bytes more before now passage =
    IsOnTheWay passage.port bytes more before now passage.progress passage.conditioner passage.out.items

-- what a turn of a passage comes to
abbrev pub IsTurnedTo : List ℕ → List ℕ → List ℕ → List ℕ → Passage → Result Turn MarkFault → Type 0
IsTurnedTo bytes more before now passage result =
    IsTurned passage.port bytes more before now passage.progress passage.conditioner passage.out.items result

-- a passage at the port of a name, of which nothing is written
pub record IsPassage (t : Table) (name : List ℕ) (red : RedRule) (bytes more held : List ℕ) (passage : Passage) : Type 0
  where
    pub accepted : passage.port.accepted.now ≡ t
    pub red_rule : passage.port.red ≡ red
    pub port : IsPortOf passage.port name
    pub passing : IsPassing bytes more held held passage

-- a capture whose opening was read, at a port that there is
abbrev pub IsBegun : Table → List ℕ → RedRule → List ℕ → List ℕ → List ℕ → Passage → Type 0
IsBegun t name red bytes more held passage =
    (is_port t.domain name ≡ true) × IsPassage t name red bytes more held passage

-- What beginning comes to: a passage at the port of this name, of which nothing is written; or what is told where there
-- is none, as of a capture of which nothing is written.
abbrev pub IsBegunBy : Table → List ℕ → RedRule → List ℕ → List ℕ → List ℕ → Result Passage (Report × MarkFault)
    → Type 0
IsBegunBy t name red bytes more held (Ok passage) = IsBegun t name red bytes more held passage
IsBegunBy t name red bytes more held (Err refused) = IsMarked t name red bytes more held held (Err refused)

-- What the device that gives bytes counted at the beginning: no failure where a passage began; and else a failure more
-- where it is told, unless memory ran out.
abbrev pub AreReadsOfBeginning : {T : Type 0} → Result T (Report × MarkFault) → ℕ → ℕ → ℕ → Type 0
AreReadsOfBeginning begun before now calls = MatchResult begun
    (λ _. now ≡ before)
    (λ refused. is_broken_off (Err refused) ≡ false → IsOfReads (is_unread (Err refused)) before now calls)

-- what is told is not that there is no such port
abbrev pub IsPortKnown : {T : Type 0} → Result T (Report × MarkFault) → Type 0
IsPortKnown answer = IfErr answer (λ refused. ¬ (refused.1 ≡ marks.UnknownPort))

-- what ended the reading is no want of memory, nor a fault of the writing
abbrev pub IsWellRead : Option PcapFault → Type 0
IsWellRead fault = (¬ (fault ≡ Some pcaps.WriteFault)) × (¬ (fault ≡ Some pcaps.NoMemory))

-- what turns come to that end is no want of memory, nor a fault of the writing; and what breaks them off is one of
-- these
abbrev pub IsEndedWell : Result (Option PcapFault) MarkFault → Type 0
IsEndedWell turned = MatchResult turned IsWellRead IsBreak

-- all visits are made
abbrev pub IsAllMade : Conditioner → Type 0
IsAllMade c = IsBounded c × (c.under_way.waiting ≡ [])

-- all visits are made, and no frame comes any more
abbrev pub IsMadeOf : Port → Conditioner → Conditioner → Type 0
IsMadeOf p was now =
    (frames : List FrameValue) (text : List ℕ) → IsConditioned p true frames text was
    → IsConditioned p false frames text now

-- What ending a passage comes to, whatever was read and written by then, and whatever its conditioner was before the
-- last visits were made.
abbrev pub IsEndedAs : List ℕ → List ℕ → Passage → Result (Option PcapFault) MarkFault
    → Result Report (Report × MarkFault) → Type 0
IsEndedAs held now passage turned answer = (was : Conditioner) (name bytes more before : List ℕ)
    → IsPortOf passage.port name → IsMadeOf passage.port was passage.conditioner
    → IsTurnedOut passage.port bytes more before held was passage.out.items turned
    → IsMarkedAt passage.port name bytes more before now answer

-- What is answered at the end, by what turns came to: the fault that broke them off, or what is told of the device that
-- gives bytes.
abbrev pub IsToldBy : Result (Option PcapFault) MarkFault → Result Report (Report × MarkFault) → Type 0
IsToldBy turned answer = MatchResult turned
    (λ fault. is_broken_off answer ≡ false → is_unread answer ≡ is_unread_by fault)
    (λ fault. (report : Report) × (answer ≡ Err (report, fault)))

-- what a turn tells of the device that gives bytes is what reading said of it, whatever it counted
abbrev pub AreReadsTold : Bool → Result Turn MarkFault → Type 0
AreReadsTold unread result = (before now calls : ℕ) → IsOfReads unread before now calls
    → IfOk result (λ turn. IsOfReads (is_unread_in turn) before now calls)

-- What passing on comes to of what was read, however much was read, taken in and written by then.
abbrev pub IsPassedOn : List ℕ → List ℕ → Passage → Passage → Result Bool PcapFault → Result Turn MarkFault → Type 0
IsPassedOn held now old new read result = (bytes more before text : List ℕ) (gone : List FrameValue)
    → old.progress.opening ≡ Some old.port.opening → IsReadOn gone bytes more old.progress read
    → IsConditioned old.port true gone text old.conditioner
    → IsWrittenTo old.out.items before (bytes_before old.port.opening ++ text) held
    → IsTurnedTo bytes more before now new result

-- A turn of a passage was taken, by what its devices tell, have or hold, still answer and count, before and after.
pub record IsTurnTaken {A B : Type 0} (tells : A → Type 0) (left : A → List ℕ) (calls failed : A → ℕ) (old new : A)
    (shows : B → Type 0) (held : B → List ℕ) (was now : B) (before after : Passage) (result : Result Turn MarkFault)
    : Type 0 where
  pub ready : IsReadyAfter before after
  pub port : after.port ≡ before.port
  pub fewer : result ≡ Ok More → calls new < calls old
  pub turned : tells old → shows was → (bytes first : List ℕ) → IsPassing bytes (left old) first (held was) before
      → IsTurnedTo bytes (left new) first (held now) after result
  pub reads : IfOk result (λ turn. IsOfReads (is_unread_in turn) (failed old) (failed new) (calls new))
  pub fault : MatchResult result IsWell IsBreak
  pub given : tells old → tells new
  pub told : shows was → shows now

-- Turns of a passage were taken to their end.
pub record AreTurnsTaken {A B : Type 0} (tells : A → Type 0) (left : A → List ℕ) (calls failed : A → ℕ) (old new : A)
    (shows : B → Type 0) (held : B → List ℕ) (was now : B) (before after : Passage)
    (result : Result (Option PcapFault) MarkFault) : Type 0 where
  pub bounded : IsBounded after.conditioner
  pub port : after.port ≡ before.port
  pub turned : tells old → shows was → (bytes first : List ℕ) → IsPassing bytes (left old) first (held was) before
      → IsTurnedOut after.port bytes (left new) first (held now) after.conditioner after.out.items result
  pub reads : IfOk result (λ fault. IsOfReads (is_unread_by fault) (failed old) (failed new) (calls new))
  pub fault : IsEndedWell result
  pub told : shows was → shows now

-- no more is under way than may be
abbrev pub IsRoomy : Passage → Type 0
IsRoomy passage = IsBounded passage.conditioner

-- nothing more came into a passage
pub record IsNoMore (old new : Passage) : Type 0 where
  pub missing : new.progress.missing ≡ old.progress.missing
  pub bounded : IsBounded new.conditioner
  pub port : new.port ≡ old.port
