-- What of a capture is marked, by what was read of it.
use Rattle.std.proofs.Common.{◌≡◌, ◌⊎◌, ℕ, Bool, true, false, cond, List, [], ◌++◌, Option, None, Some, Result, Ok, Err, append-nil, zip, refl, subst, sym, ◌∙◌, ap, inl, inr}
use Rattle.capture_reader.specs.Formats.{bytes_before}
use Rattle.pcap_capture.specs.Frames.{FrameValue}
use Rattle.capture_reader.specs.Formats.{Reading, after_opening, capture, fault_in, opening_of}
use Rattle.pcap_capture.specs.declared.fault.PcapFault.{PcapFault}
use Rattle.pcap_capture.specs.declared.fault.PcapFault.TheVariants as pcaps
use Rattle.capture_reader.specs.declared.opening.Opening.{Opening}
use Rattle.capture_reader.proofs.FormatLaws.{opening-append}
use Rattle.ds_domain_base.specs.Domains.{Domain, is_port}
use Rattle.run_audit.specs.declared.verdict.Verdict.{Verdict}
use Rattle.run_audit.specs.declared.verdict.Verdict.TheVariants.{Kept}
use Rattle.ds_checker.specs.Acceptance.{Table}
use Rattle.ds_conductor_base.specs.Passing.{colours_of}
use Rattle.ds_marking.specs.Markings.{IsMarked, IsMarkedAs, IsMarkedBut, IsVerdictOn, IsWhole, IsWholeSoFar, IsWholeWith, Marking, answer_of, marking_behind, marking_in, marking_of, nothing_marked}
use Rattle.ds_conditioner.specs.Sendings.{see}
use Rattle.pcap_capture.specs.Takings.{is_own}
use Rattle.capture_reader.proofs.OwnLaws.{fault_in_own}
use Rattle.capture_reader.specs.Readings.{IsOpeningTold, IsReading, IsReadTo, opening_in}
use Rattle.ds_conditioner.specs.Conditionings.{IsPortOf, see_at}
use Rattle.ds_marking.specs.Faults.{fault_of}
use Rattle.ds_marking.specs.Passings.{IsBegun, IsBrokenOff, IsFinished, IsMarkedAt, marking_at}
use Rattle.ds_marking.specs.declared.marking.Passage.{Passage}
use Rattle.ds_conditioner.specs.Reports.{nothing_read, report_of, with_verdict}
use Rattle.ds_conditioner.specs.Texts.{text_from}
use Rattle.ds_conditioner.specs.declared.conditioner.Conditioner.{Conditioner}
use Rattle.ds_conditioner.specs.declared.port.Port.{Port}
use Rattle.ds_marking.proofs.VerdictLaws.{front}
use Rattle.pcap_capture.proofs.FrontLaws.{IsFrontOf-none}
use Rattle.frame_marker.specs.declared.sight.Sight.{Sight}
use mathlib.Core.Path.{fun_ext}
use Rattle.ds_conditioner.specs.Sendings.{sent_from, sent_of}
use Rattle.pcap_capture.specs.Fronts.{IsFrontOf}
use Rattle.ds_marking.specs.declared.fault.MarkFault.{MarkFault}
use Rattle.ds_marking.specs.declared.fault.MarkFault.TheVariants as marks
use Rattle.ds_conditioner.specs.declared.report.Report.{Report}
use Rattle.ds_conditioner.specs.declared.rule.RedRule.{RedRule}
use Rattle.capture_reader.proofs.ReadingLaws.{fault_stands}

-- the marking of frames whose opening is known, or not
abbrev pub marking_told : Table → List ℕ → RedRule → Option Opening → List FrameValue → Marking
marking_told t port red None frames = nothing_marked
marking_told t port red (Some opening) frames = marking_of t port red opening frames

-- how the bytes of a capture end that were read with a fault, or without
abbrev pub EndsAs : Option PcapFault → List ℕ → List ℕ → Type 0
EndsAs None read more = (more ≡ []) × (fault_in read ≡ None)
EndsAs (Some fault) read more =
    ((fault ≡ pcaps.ReadFault) × ((capture read).fault ≡ None))
    ⊎ ((is_own fault ≡ true) × (fault_in (read ++ more) ≡ Some fault) × ((more ≡ []) ⊎ ((capture read).fault ≡ Some fault)))

-- what was read of a capture while memory was there: the bytes in which its frames stand, and what ended them
pub record IsSeen (bytes more : List ℕ) (opening : Option Opening) (frames : List FrameValue) (fault : Option PcapFault) : Type 0 where
  pub read : List ℕ
  pub front : bytes ≡ read ++ more
  pub told : opening_in read opening
  pub shown : frames ≡ (capture read).frames
  pub ended : EndsAs fault read more

-- an opening that was told while memory was there
told_well : (read : List ℕ) (opening : Option Opening) (fault : Option PcapFault) → ¬ (fault ≡ Some pcaps.NoMemory) → IsOpeningTold read opening fault
    → opening_in read opening
told_well read opening fault well (inl told) = told
told_well read opening fault well (inr memory) = absurd (well memory.1)

none_behind : (read more : List ℕ) (fault : PcapFault) (found : Option (Result Opening PcapFault)) → opening_of read ≡ found → (after_opening read found).fault ≡ Some fault
    → opening_in read None → opening_in (read ++ more) None
none_behind read more fault None e stands none = absurd cc
none_behind read more fault (Some (Err other)) e stands none = λ opening h. let known = opening-append read more (Err other) e in cc
none_behind read more fault (Some (Ok opening)) e stands none = absurd (none opening e)

none_stands : (read more : List ℕ) (fault : PcapFault) → (capture read).fault ≡ Some fault → opening_in read None → opening_in (read ++ more) None
unfolding capture
none_stands read more fault stands none = none_behind read more fault (opening_of read) refl stands none

-- the opening stays the same with what stands behind a fault
told_on : (read more : List ℕ) (opening : Option Opening) (fault : PcapFault) → opening_in read opening → (more ≡ []) ⊎ ((capture read).fault ≡ Some fault)
    → opening_in (read ++ more) opening
told_on read more (Some opening) fault told why = opening-append read more (Ok opening) told
told_on read more None fault told (inl nothing) = subst (λ all. opening_in all None) (sym (ap (λ m. read ++ m) nothing ∙ append-nil read)) told
told_on read more None fault told (inr stands) = none_stands read more fault stands told

-- the frames stay the same with what stands behind a fault
frames_on : (read more : List ℕ) (fault : PcapFault) → (more ≡ []) ⊎ ((capture read).fault ≡ Some fault) → (capture (read ++ more)).frames ≡ (capture read).frames
frames_on read more fault (inl nothing) = ap (λ all. (capture all).frames) (ap (λ m. read ++ m) nothing ∙ append-nil read)
frames_on read more fault (inr stands) = ap (λ (r : Reading). r.frames) (fault_stands read more fault stands)

seen_by : (bytes read more : List ℕ) (opening : Option Opening) (frames : List FrameValue) (fault : PcapFault) → ¬ (Some fault ≡ Some pcaps.NoMemory) → bytes ≡ read ++ more
    → IsOpeningTold read opening (Some fault) → IsReadTo read more frames (Some fault) → IsSeen bytes more opening frames (Some fault)
seen_by bytes read more opening frames fault well front told (inl unread) = record {
  read = read;
  front = front;
  told = told_well read opening (Some fault) well told;
  shown = unread.1;
  ended = inl (unread.0, unread.2);
}
seen_by bytes read more opening frames fault well front told (inr (inl memory)) = absurd (well (ap Some memory.0))
seen_by bytes read more opening frames fault well front told (inr (inr stands)) = record {
  read = read;
  front = front;
  told = told_well read opening (Some fault) well told;
  shown = stands.0 ∙ frames_on read more fault stands.2;
  ended = inr (fault_in_own (read ++ more) fault stands.1, stands.1, stands.2);
}

-- what was read while memory was there
pub seen : (bytes more : List ℕ) (opening : Option Opening) (frames : List FrameValue) (fault : Option PcapFault) → ¬ (fault ≡ Some pcaps.NoMemory)
    → IsReading bytes more opening frames fault → IsSeen bytes more opening frames fault
seen bytes more opening frames None well reading = record {
  read = reading.read;
  front = reading.front;
  told = told_well reading.read opening None well reading.told;
  shown = reading.ended.1;
  ended = (reading.ended.0, reading.ended.2);
}
seen bytes more opening frames (Some fault) well reading = seen_by bytes reading.read more opening frames fault well reading.front reading.told reading.ended

unmarked_by : (t : Table) (port : List ℕ) (red : RedRule) (read : List ℕ) (found : Option (Result Opening PcapFault)) (frames : List FrameValue) → opening_of read ≡ found
    → opening_in read None → marking_behind t port red found frames ≡ nothing_marked
unmarked_by t port red read None frames e none = refl
unmarked_by t port red read (Some (Err fault)) frames e none = refl
unmarked_by t port red read (Some (Ok opening)) frames e none = absurd (none opening e)

-- the marking of bytes is that of their opening and their frames
pub marked_is : (t : Table) (port : List ℕ) (red : RedRule) (read : List ℕ) (opening : Option Opening) (frames : List FrameValue) → opening_in read opening
    → frames ≡ (capture read).frames → marking_told t port red opening frames ≡ marking_in t port red read
marked_is t port red read None frames told same = sym (unmarked_by t port red read (opening_of read) (capture read).frames refl told)
marked_is t port red read (Some opening) frames told same =
    ap (marking_told t port red (Some opening)) same ∙ ap (λ found. marking_behind t port red found (capture read).frames) (sym told)

-- the marking stays the same with what stands behind a fault
marking_on : (t : Table) (port : List ℕ) (red : RedRule) (read more : List ℕ) (opening : Option Opening) (fault : PcapFault) → opening_in read opening
    → (more ≡ []) ⊎ ((capture read).fault ≡ Some fault) → marking_in t port red (read ++ more) ≡ marking_in t port red read
marking_on t port red read more opening fault told why =
    sym (marked_is t port red (read ++ more) opening (capture read).frames (told_on read more opening fault told why) (sym (frames_on read more fault why)))
    ∙ marked_is t port red read opening (capture read).frames told refl

-- a marking that was written whole is that of all bytes, where these end with what was read
whole_of : (marked : List ℕ → Marking) (bytes read more before after : List ℕ) (report : Report) → bytes ≡ read ++ more → more ≡ []
    → fault_in read ≡ None → IsWhole (marked read) report before after → IsWholeWith marked bytes before after report None
whole_of marked bytes read more before after report front nothing found whole =
    let same : bytes ≡ read = front ∙ ap (λ m. read ++ m) nothing ∙ append-nil read in record {
      whole = subst (λ all. IsWhole (marked all) report before after) (sym same) whole;
      stands = ap fault_in same ∙ found;
    }

-- what stands behind a fault changes no marking
abbrev StaysOn : (List ℕ → Marking) → List ℕ → List ℕ → Type 0
StaysOn marked read more = (fault : PcapFault) → (more ≡ []) ⊎ ((capture read).fault ≡ Some fault) → marked (read ++ more) ≡ marked read

-- the same, where a fault of the capture ended it that is none of a device
stands_of : (marked : List ℕ → Marking) (bytes read more before after : List ℕ) (report : Report) (fault : PcapFault) → ¬ (fault ≡ pcaps.ReadFault) → bytes ≡ read ++ more
    → StaysOn marked read more → EndsAs (Some fault) read more → IsWhole (marked read) report before after → IsWholeWith marked bytes before after report (Some fault)
stands_of marked bytes read more before after report fault apart front stays (inl unread) whole = absurd (apart unread.0)
stands_of marked bytes read more before after report fault apart front stays (inr ended) whole = record {
  whole = subst (λ m. IsWhole m report before after) (sym (ap marked front ∙ stays fault ended.2)) whole;
  stands = ap fault_in front ∙ ended.1;
}

-- where the device failed, all of what it gave was marked
cut_of : (marked : List ℕ → Marking) (bytes read more before after : List ℕ) (report : Report) → bytes ≡ read ++ more → EndsAs (Some pcaps.ReadFault) read more
    → IsWhole (marked read) report before after → IsWholeSoFar marked bytes more before after report
cut_of marked bytes read more before after report front (inl unread) whole = record { read = read; front = front; sound = unread.1; whole = whole }
cut_of marked bytes read more before after report front (inr ended) whole = absurd (cc)

marked_but : (marked : List ℕ → Marking) (bytes read more before after : List ℕ) (report : Report) (fault : PcapFault) → ¬ (Some fault ≡ Some pcaps.NoMemory)
    → ¬ (Some fault ≡ Some pcaps.WriteFault) → bytes ≡ read ++ more → StaysOn marked read more → EndsAs (Some fault) read more → IsWhole (marked read) report before after
    → IsMarkedBut marked bytes more before after report fault
marked_but marked bytes read more before after report pcaps.NotPcap well unwritten front stays ended whole =
    stands_of marked bytes read more before after report pcaps.NotPcap (λ e. cc) front stays ended whole
marked_but marked bytes read more before after report pcaps.IsPcapng well unwritten front stays ended whole =
    stands_of marked bytes read more before after report pcaps.IsPcapng (λ e. cc) front stays ended whole
marked_but marked bytes read more before after report pcaps.BadVersion well unwritten front stays ended whole =
    stands_of marked bytes read more before after report pcaps.BadVersion (λ e. cc) front stays ended whole
marked_but marked bytes read more before after report (pcaps.LinkType number) well unwritten front stays ended whole =
    stands_of marked bytes read more before after report (pcaps.LinkType number) (λ e. cc) front stays ended whole
marked_but marked bytes read more before after report (pcaps.RecordTooLong count) well unwritten front stays ended whole =
    stands_of marked bytes read more before after report (pcaps.RecordTooLong count) (λ e. cc) front stays ended whole
marked_but marked bytes read more before after report pcaps.Truncated well unwritten front stays ended whole =
    stands_of marked bytes read more before after report pcaps.Truncated (λ e. cc) front stays ended whole
marked_but marked bytes read more before after report pcaps.Failed well unwritten front stays ended whole =
    stands_of marked bytes read more before after report pcaps.Failed (λ e. cc) front stays ended whole
marked_but marked bytes read more before after report pcaps.BadMagic well unwritten front stays ended whole =
    stands_of marked bytes read more before after report pcaps.BadMagic (λ e. cc) front stays ended whole
marked_but marked bytes read more before after report (pcaps.BadLength size) well unwritten front stays ended whole =
    stands_of marked bytes read more before after report (pcaps.BadLength size) (λ e. cc) front stays ended whole
marked_but marked bytes read more before after report (pcaps.BlockTooLong size) well unwritten front stays ended whole =
    stands_of marked bytes read more before after report (pcaps.BlockTooLong size) (λ e. cc) front stays ended whole
marked_but marked bytes read more before after report pcaps.LengthsDiffer well unwritten front stays ended whole =
    stands_of marked bytes read more before after report pcaps.LengthsDiffer (λ e. cc) front stays ended whole
marked_but marked bytes read more before after report (pcaps.UnknownInterface number) well unwritten front stays ended whole =
    stands_of marked bytes read more before after report (pcaps.UnknownInterface number) (λ e. cc) front stays ended whole
marked_but marked bytes read more before after report pcaps.ReadFault well unwritten front stays ended whole = cut_of marked bytes read more before after report front ended whole
marked_but marked bytes read more before after report pcaps.WriteFault well unwritten front stays ended whole = absurd (unwritten refl)
marked_but marked bytes read more before after report pcaps.NoMemory well unwritten front stays ended whole = absurd (well refl)

abbrev IsAnswered : (List ℕ → Marking) → List ℕ → List ℕ → List ℕ → List ℕ → Report → Option PcapFault → Type 0
IsAnswered marked bytes more before after report None = IsWholeWith marked bytes before after report None
IsAnswered marked bytes more before after report (Some fault) = IsMarkedBut marked bytes more before after report fault

answered : (marked : List ℕ → Marking) (bytes read more before after : List ℕ) (report : Report) (fault : Option PcapFault) → ¬ (fault ≡ Some pcaps.NoMemory)
    → ¬ (fault ≡ Some pcaps.WriteFault) → bytes ≡ read ++ more → StaysOn marked read more → EndsAs fault read more → IsWhole (marked read) report before after
    → IsAnswered marked bytes more before after report fault
answered marked bytes read more before after report None well unwritten front stays ended whole = whole_of marked bytes read more before after report front ended.0 ended.1 whole
answered marked bytes read more before after report (Some fault) well unwritten front stays ended whole =
    marked_but marked bytes read more before after report fault well unwritten front stays ended whole

as_answered : (t : Table) (port : List ℕ) (red : RedRule) (bytes more before after : List ℕ) (report : Report) (verdict : Verdict) (fault : Option PcapFault)
    → (fault ≡ None → IsVerdictOn t (marking_in t port red bytes).sent verdict)
    → IsAnswered (marking_in t port red) bytes more before after report fault → IsMarkedAs t port red bytes more before after (answer_of verdict report fault)
as_answered t port red bytes more before after report verdict None judges is = record {
  verdict = verdict;
  whole = record { whole = record { written = is.whole.written; told = ap (with_verdict verdict) is.whole.told }; stands = is.stands };
  behind = judges refl;
}
as_answered t port red bytes more before after report verdict (Some fault) judges is = is

-- where a capture has no fault, all of it was read
read_all : (t : Table) (port : List ℕ) (red : RedRule) (bytes read more : List ℕ) (fault : Option PcapFault) → bytes ≡ read ++ more → EndsAs fault read more → fault ≡ None
    → marking_in t port red read ≡ marking_in t port red bytes
read_all t port red bytes read more None front ended none = ap (marking_in t port red) (sym (front ∙ ap (λ m. read ++ m) ended.0 ∙ append-nil read))
read_all t port red bytes read more (Some fault) front ended none = absurd cc

-- frames that were marked are the marked capture, by what was read of it
pub all_marked : (t : Table) (port : List ℕ) (red : RedRule) (bytes more before after : List ℕ) (opening : Option Opening) (frames : List FrameValue) (report : Report)
    (verdict : Verdict) (fault : Option PcapFault) → ¬ (fault ≡ Some pcaps.NoMemory) → ¬ (fault ≡ Some pcaps.WriteFault) → IsSeen bytes more opening frames fault
    → (fault ≡ None → IsVerdictOn t (marking_told t port red opening frames).sent verdict)
    → IsWhole (marking_told t port red opening frames) report before after → IsMarkedAs t port red bytes more before after (answer_of verdict report fault)
all_marked t port red bytes more before after opening frames report verdict fault well unwritten at judges whole =
    as_answered t port red bytes more before after report verdict fault
    (λ none. subst (λ (m : Marking). IsVerdictOn t m.sent verdict)
    (marked_is t port red at.read opening frames at.told at.shown ∙ read_all t port red bytes at.read more fault at.front at.ended none) (judges none))
    (answered (marking_in t port red) bytes at.read more before after report fault well unwritten at.front
    (λ stands why. marking_on t port red at.read more opening stands at.told why) at.ended
    (subst (λ m. IsWhole m report before after) (marked_is t port red at.read opening frames at.told at.shown) whole))

nothing_is : (t : Table) (port : List ℕ) (red : RedRule) (opening : Opening) → nothing_read ≡ (marking_of t port red opening []).report
unfolding sent_from
nothing_is t port red opening = refl

nothing_behind : (t : Table) (port : List ℕ) (red : RedRule) (found : Option (Result Opening PcapFault)) → nothing_read ≡ (marking_behind t port red found []).report
nothing_behind t port red None = refl
nothing_behind t port red (Some (Err fault)) = refl
nothing_behind t port red (Some (Ok opening)) = nothing_is t port red opening

-- memory ran out before anything was written
pub starved_marked : (t : Table) (port : List ℕ) (red : RedRule) (bytes read more before after : List ℕ) (report : Report) → bytes ≡ read ++ more → after ≡ before → report ≡ nothing_read
    → IsMarkedAs t port red bytes more before after (Err (report, marks.NoMemory))
starved_marked t port red bytes read more before after report front same told = record {
  read = read;
  frames = [];
  others = (capture read).frames;
  front = front;
  parted = refl;
  written = subst (λ now. IsFrontOf before (marking_in t port red read).text now) (sym same) (IsFrontOf-none before (marking_in t port red read).text);
  covered = let text = (marking_behind t port red (opening_of read) []).text in subst (λ now. IsFrontOf before text now) (sym same) (IsFrontOf-none before text);
  told = told ∙ nothing_behind t port red (opening_of read);
}

-- a fault before the opening was known
unheaded_by : (t : Table) (port : List ℕ) (red : RedRule) (bytes more before after : List ℕ) (frames : List FrameValue) (fault : PcapFault) → ¬ (fault ≡ pcaps.NoMemory)
    → ¬ (fault ≡ pcaps.WriteFault) → IsReading bytes more None frames (Some fault) → after ≡ before
    → IsMarkedAs t port red bytes more before after (Err (nothing_read, marks.Capture fault))
unheaded_by t port red bytes more before after frames fault well writable reading same =
    let memory : ¬ (Some fault ≡ Some pcaps.NoMemory) = λ e. well cc in
    let unwritten : ¬ (Some fault ≡ Some pcaps.WriteFault) = λ e. writable cc in
    all_marked t port red bytes more before after None frames nothing_read Kept (Some fault) memory unwritten (seen bytes more None frames (Some fault) memory reading) (λ none. absurd cc)
    (record { written = same ∙ sym (append-nil before); told = refl })

abbrev told_of : PcapFault → Result Opening PcapFault
told_of fault = Err fault

unheaded_at : (t : Table) (port : List ℕ) (red : RedRule) (bytes more before after : List ℕ) (frames : List FrameValue) (fault : PcapFault) → ¬ (told_of fault ≡ told_of pcaps.WriteFault)
    → IsReading bytes more None frames (Some fault) → after ≡ before → IsMarkedAs t port red bytes more before after (Err (nothing_read, fault_of fault))
unheaded_at t port red bytes more before after frames pcaps.NotPcap w r same = unheaded_by t port red bytes more before after frames pcaps.NotPcap (λ e. cc) (λ e. cc) r same
unheaded_at t port red bytes more before after frames pcaps.IsPcapng w r same = unheaded_by t port red bytes more before after frames pcaps.IsPcapng (λ e. cc) (λ e. cc) r same
unheaded_at t port red bytes more before after frames pcaps.BadVersion w r same = unheaded_by t port red bytes more before after frames pcaps.BadVersion (λ e. cc) (λ e. cc) r same
unheaded_at t port red bytes more before after frames (pcaps.LinkType number) w r same = unheaded_by t port red bytes more before after frames (pcaps.LinkType number) (λ e. cc) (λ e. cc) r same
unheaded_at t port red bytes more before after frames (pcaps.RecordTooLong count) w r same =
    unheaded_by t port red bytes more before after frames (pcaps.RecordTooLong count) (λ e. cc) (λ e. cc) r same
unheaded_at t port red bytes more before after frames pcaps.Truncated w r same = unheaded_by t port red bytes more before after frames pcaps.Truncated (λ e. cc) (λ e. cc) r same
unheaded_at t port red bytes more before after frames pcaps.BadMagic w r same = unheaded_by t port red bytes more before after frames pcaps.BadMagic (λ e. cc) (λ e. cc) r same
unheaded_at t port red bytes more before after frames (pcaps.BadLength size) w r same = unheaded_by t port red bytes more before after frames (pcaps.BadLength size) (λ e. cc) (λ e. cc) r same
unheaded_at t port red bytes more before after frames (pcaps.BlockTooLong size) w r same = unheaded_by t port red bytes more before after frames (pcaps.BlockTooLong size) (λ e. cc) (λ e. cc) r same
unheaded_at t port red bytes more before after frames pcaps.LengthsDiffer w r same = unheaded_by t port red bytes more before after frames pcaps.LengthsDiffer (λ e. cc) (λ e. cc) r same
unheaded_at t port red bytes more before after frames (pcaps.UnknownInterface number) w r same = unheaded_by t port red bytes more before after frames (pcaps.UnknownInterface number) (λ e. cc) (λ e. cc) r same
unheaded_at t port red bytes more before after frames pcaps.ReadFault w r same = unheaded_by t port red bytes more before after frames pcaps.ReadFault (λ e. cc) (λ e. cc) r same
unheaded_at t port red bytes more before after frames pcaps.WriteFault w r same = absurd (w refl)
unheaded_at t port red bytes more before after frames pcaps.NoMemory w r same = starved_marked t port red bytes r.read more before after nothing_read r.front same refl
unheaded_at t port red bytes more before after frames pcaps.Failed w r same = unheaded_by t port red bytes more before after frames pcaps.Failed (λ e. cc) (λ e. cc) r same

-- what is answered to it
pub unheaded : (t : Table) (port : List ℕ) (red : RedRule) (bytes more before after : List ℕ) (frames : List FrameValue) (fault : PcapFault) (report : Report) (told : MarkFault)
    → ¬ (told_of fault ≡ told_of pcaps.WriteFault) → told ≡ fault_of fault → report ≡ nothing_read → IsReading bytes more None frames (Some fault) → after ≡ before
    → IsMarkedAs t port red bytes more before after (Err (report, told))
unheaded t port red bytes more before after frames fault report told writable is nothing reading same =
    subst (λ r. IsMarkedAs t port red bytes more before after (Err (r, told))) (sym nothing)
    (subst (λ f. IsMarkedAs t port red bytes more before after (Err (nothing_read, f))) (sym is) (unheaded_at t port red bytes more before after frames fault writable reading same))

-- the marking at a port is that of its table, its name, its rule for red frames, and the opening
pub at_port : (p : Port) (t : Table) (port : List ℕ) (red : RedRule) (opening : Opening) (frames : List FrameValue) → p.accepted.now ≡ t → p.red ≡ red → p.opening ≡ opening
    → ((f : FrameValue) → see_at p f ≡ see t port f) → marking_at p frames ≡ marking_of t port red opening frames
at_port p t port red opening frames table rule head sees =
    let by : (FrameValue → Sight) → Table → RedRule → Opening → Marking = λ look u r h. record {
      text = bytes_before h ++ text_from u r 0 frames (zip (sent_of look frames) (colours_of u (sent_of look frames)));
      report = report_of look r frames (zip (sent_of look frames) (colours_of u (sent_of look frames)));
      sent = sent_of look frames;
    } in
    let look : see_at p ≡ see t port = fun_ext sees in
    ap (λ f. by f p.accepted.now p.red p.opening) look ∙ ap (λ u. by (see t port) u p.red p.opening) table
    ∙ ap (λ r. by (see t port) t r p.opening) rule ∙ ap (by (see t port) t red) head

-- a marking that was stopped, by its fault
stopped_as : (t : Table) (port : List ℕ) (red : RedRule) (bytes read more before after : List ℕ) (opening : Opening) (frames others : List FrameValue) (fault : MarkFault)
    → bytes ≡ read ++ more → opening_of read ≡ Some (Ok opening) → (capture read).frames ≡ frames ++ others → (fault ≡ marks.Capture pcaps.WriteFault → others ≡ [])
    → (fault ≡ marks.Capture pcaps.WriteFault) ⊎ (fault ≡ marks.NoMemory)
    → IsFrontOf before (marking_of t port red opening (frames ++ others)).text after → IsFrontOf before (marking_of t port red opening frames).text after
    → IsMarkedAs t port red bytes more before after (Err ((marking_of t port red opening frames).report, fault))
stopped_as t port red bytes read more before after opening frames others fault front headed parted all (inl unwritten) written covered =
    let report = (marking_of t port red opening frames).report in
    let is : marking_of t port red opening (frames ++ others) ≡ marking_in t port red read = marked_is t port red read (Some opening) (frames ++ others) headed (sym parted) in
    let same : frames ++ others ≡ frames = ap (λ fs. frames ++ fs) (all unwritten) ∙ append-nil frames in
    subst (λ f. IsMarkedAs t port red bytes more before after (Err (report, f))) (sym unwritten) (record {
      read = read;
      front = front;
      written = subst (λ (m : Marking). IsFrontOf before m.text after) is written;
      told = ap (λ fs. (marking_of t port red opening fs).report) (sym same) ∙ ap (λ (m : Marking). m.report) is;
    })
stopped_as t port red bytes read more before after opening frames others fault front headed parted all (inr memory) written covered =
    let report = (marking_of t port red opening frames).report in
    let is : marking_of t port red opening (frames ++ others) ≡ marking_in t port red read = marked_is t port red read (Some opening) (frames ++ others) headed (sym parted) in
    subst (λ f. IsMarkedAs t port red bytes more before after (Err (report, f))) (sym memory) (record {
      read = read;
      frames = frames;
      others = others;
      front = front;
      parted = parted;
      written = subst (λ (m : Marking). IsFrontOf before m.text after) is written;
      covered = subst (λ found. IsFrontOf before (marking_behind t port red found frames).text after) (sym headed) covered;
      told = ap (λ found. (marking_behind t port red found frames).report) (sym headed);
    })

-- a marking that was broken off
pub broken_marked : (p : Port) (t : Table) (port : List ℕ) (red : RedRule) (opening : Opening) (bytes more before after : List ℕ) (c : Conditioner) (fault : MarkFault) (report : Report)
    → p.accepted.now ≡ t → p.red ≡ red → p.opening ≡ opening → ((look : FrameValue) → see_at p look ≡ see t port look)
    → (fault ≡ marks.Capture pcaps.WriteFault) ⊎ (fault ≡ marks.NoMemory) → (off : IsBrokenOff p bytes more before after c fault) → report ≡ (marking_at p off.frames).report
    → IsMarkedAs t port red bytes more before after (Err (report, fault))
broken_marked p t port red opening bytes more before after c fault report table rule head sees why off told =
    let is = at_port p t port red opening off.frames table rule head sees in
    let all = at_port p t port red opening (off.frames ++ off.others) table rule head sees in
    subst (λ r. IsMarkedAs t port red bytes more before after (Err (r, fault))) (sym (told ∙ ap (λ (m : Marking). m.report) is))
    (stopped_as t port red bytes off.read more before after opening off.frames off.others fault off.front (off.headed ∙ ap (λ (h : Opening). Some (Ok h)) head) off.parted off.all why
    (subst (λ (m : Marking). IsFrontOf before m.text after) all (front p off.frames off.others off.text before after c off.conditioned off.written))
    (subst (λ (m : Marking). IsFrontOf before m.text after) is
    (subst (λ fs. IsFrontOf before (marking_at p fs).text after) (append-nil off.frames) (front p off.frames [] off.text before after c off.conditioned off.written))))

-- a marking that was finished
finished_by : (p : Port) (t : Table) (port : List ℕ) (red : RedRule) (opening : Opening) (bytes more before after : List ℕ) (frames : List FrameValue) (fault : Option PcapFault)
    (m : Marking) (answer : Result Report (Report × MarkFault)) → m ≡ marking_of t port red opening frames
    → ¬ (fault ≡ Some pcaps.NoMemory) → ¬ (fault ≡ Some pcaps.WriteFault) → IsSeen bytes more (Some opening) frames fault
    → IsFinished t m fault before after answer → IsMarkedAs t port red bytes more before after answer
finished_by p t port red opening bytes more before after frames fault m answer is well writable at (inl (verdict, behind, whole, told)) =
    subst (IsMarkedAs t port red bytes more before after) (sym told)
    (all_marked t port red bytes more before after (Some opening) frames m.report verdict fault well writable at
    (λ none. subst (λ (n : Marking). IsVerdictOn t n.sent verdict) is behind)
    (subst (λ (n : Marking). IsWhole n m.report before after) is whole))
finished_by p t port red opening bytes more before after frames fault m answer is well writable at (inr (unwritten, why, written, told)) =
    subst (IsMarkedAs t port red bytes more before after) (sym told)
    (subst (λ (n : Marking). IsMarkedAs t port red bytes more before after (Err (n.report, unwritten))) (sym is)
    (stopped_as t port red bytes at.read more before after opening frames [] unwritten at.front at.told (sym at.shown ∙ sym (append-nil frames)) (λ e. refl) why
    (subst (λ fs. IsFrontOf before (marking_of t port red opening fs).text after) (sym (append-nil frames)) (subst (λ (n : Marking). IsFrontOf before n.text after) is written))
    (subst (λ (n : Marking). IsFrontOf before n.text after) is written)))

pub finished_marked : (p : Port) (t : Table) (port : List ℕ) (red : RedRule) (opening : Opening) (bytes more before after : List ℕ) (frames : List FrameValue) (fault : Option PcapFault)
    (answer : Result Report (Report × MarkFault)) → p.accepted.now ≡ t → p.red ≡ red → p.opening ≡ opening → ((look : FrameValue) → see_at p look ≡ see t port look)
    → ¬ (fault ≡ Some pcaps.NoMemory) → ¬ (fault ≡ Some pcaps.WriteFault) → IsReading bytes more (Some p.opening) frames fault
    → IsFinished p.accepted.now (marking_at p frames) fault before after answer → IsMarkedAs t port red bytes more before after answer
finished_marked p t port red opening bytes more before after frames fault answer table rule head sees well writable reading done =
    let at = seen bytes more (Some opening) frames fault well (subst (λ (h : Opening). IsReading bytes more (Some h) frames fault) head reading) in
    finished_by p t port red opening bytes more before after frames fault (marking_at p frames) answer (at_port p t port red opening frames table rule head sees) well writable at
    (subst (λ u. IsFinished u (marking_at p frames) fault before after answer) table done)

-- what is marked at a port is marked by its table, its name and its rule for red frames
pub marked_by : (p : Port) (t : Table) (name : List ℕ) (red : RedRule) (opening : Opening) (bytes more before after : List ℕ) (answer : Result Report (Report × MarkFault))
    → p.accepted.now ≡ t → p.red ≡ red → p.opening ≡ opening → ((look : FrameValue) → see_at p look ≡ see t name look)
    → (IsPortOf p name → IsMarkedAt p name bytes more before after answer) → IsMarkedAs t name red bytes more before after answer
marked_by p t name red opening bytes more before after answer table rule head sees marked =
    let is : IsPortOf p name = λ look. sees look ∙ ap (λ u. see u name look) (sym table) ∙ ap (λ (h : Opening). see p.accepted.now name look) (sym head) in
    subst (λ u. IsMarkedAs u name red bytes more before after answer) table
    (subst (λ r. IsMarkedAs p.accepted.now name r bytes more before after answer) rule (marked is))

-- a name that is found is the name of a port, and one that is not found is not
pub port_found : (is : Bool) (text name : List ℕ) → Some name ≡ cond is (Some text) None → (is ≡ true) × (name ≡ text)
port_found true text name e = (refl, cc)
port_found false text name e = absurd cc

-- a port that is found is one, by its own name
pub marked_at : (t : Table) (d : Domain) (port name : List ℕ) (red : RedRule) (bytes more before after : List ℕ) (answer : Result Report (Report × MarkFault)) → d ≡ t.domain
    → Some name ≡ cond (is_port d port) (Some port) None → IsMarkedAs t name red bytes more before after answer → IsMarked t port red bytes more before after answer
marked_at t d port name red bytes more before after answer same found is =
    let there = port_found (is_port d port) port name found in
    inr (ap (λ e. is_port e port) (sym same) ∙ there.0, subst (λ n. IsMarkedAs t n red bytes more before after answer) there.1 is)

-- what passed at a port that there is is marked there
pub passed_at : {C : Type 0} (t : Table) (port : List ℕ) (red : RedRule) (bytes left more before after : List ℕ) (passage : Passage) (begun : IsBegun t port red bytes left before passage) (p : Port) → p ≡ passage.port
    → (answer : Result Report (Report × MarkFault)) → (IsPortOf p port → C → IsMarkedAt p port bytes more before after answer) → C → IsMarked t port red bytes more before after answer
passed_at t port red bytes left more before after passage begun p same answer marked come =
    let at = begun.1 in
    let is : IsPortOf p port = subst (λ (q : Port). IsPortOf q port) (sym same) at.port in
    inr (
      begun.0,
      subst (λ u. IsMarkedAs u port red bytes more before after answer) (ap (λ (q : Port). q.accepted.now) same ∙ at.accepted)
          (subst (λ r. IsMarkedAs p.accepted.now port r bytes more before after answer) (ap (λ (q : Port). q.red) same ∙ at.red_rule) (marked is come)),
    )
