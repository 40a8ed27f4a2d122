-- What turns come to.
use Rattle.std.proofs.Common.{◌≡◌, ◌⊎◌, inl, inr, ℕ, Bool, true, false, List, [], ◌++◌, Option, None, Some, Result, Ok, Err, IfOk, MatchResult, if◌then◌else◌, is_ok, refl, sym, ap, subst, ◌∙◌, append_assoc, append-nil, OnErr, OnOk}
use Rattle.capture_reader.specs.Formats.{bytes_before}
use Rattle.pcap_capture.specs.Counts.{IsOfReads}
use Rattle.pcap_capture.specs.Fronts.{IsFrontOf}
use Rattle.pcap_capture.specs.Frames.{FrameValue}
use Rattle.pcap_capture.specs.declared.fault.PcapFault.{PcapFault}
use Rattle.pcap_capture.specs.declared.fault.PcapFault.TheVariants as pcaps
use Rattle.ds_conditioner.specs.Conditionings.{IsConditioned}
use Rattle.run_audit.specs.declared.verdict.Verdict.{Verdict}
use Rattle.ds_marking.specs.Markings.{answer_of, is_broken_off, is_read, is_unread, is_unwritten}
use Rattle.ds_marking.specs.Passings.{IsBrokenOff, IsEndedWell, IsToldBy, IsTurned, is_unread_by, is_unread_in, turned_by}
use Rattle.ds_marking.specs.Faults.{fault_of}
use Rattle.capture_reader.specs.Readings.{IsReading, IsUnderway, is_starved}
use Rattle.ds_marking.specs.Writings.{IsWrittenTo, failures_with, is_write_fault}
use Rattle.ds_conditioner.specs.declared.conditioner.Conditioner.{Conditioner}
use Rattle.ds_marking.specs.declared.fault.MarkFault.{MarkFault}
use Rattle.ds_marking.specs.declared.fault.MarkFault.TheVariants as marks
use Rattle.ds_marking.specs.declared.marking.Turn.TheVariants.{Ended, More}
use Rattle.ds_conditioner.specs.declared.port.Port.{Port}
use Rattle.capture_reader.specs.declared.reading.Progress.{Progress}
use Rattle.ds_conditioner.specs.declared.report.Report.{Report}
use Rattle.capture_reader.proofs.ReadingLaws.{IsFrontRead, whole_underway}

-- a front of a text is written where the rest of it is collected
pub front_written : (text out before now : List ℕ) → IsWrittenTo out before text now → IsFrontOf before text now
front_written text out before now so = (so.front, out, so.whole, so.written)

-- memory ran out: of what was read these frames are seen
pub starved_off : (p : Port) (bytes more before now text : List ℕ) (frames seen others : List FrameValue) (c : Conditioner) (at : IsFrontRead bytes more p.opening frames)
    → frames ≡ seen ++ others → IsConditioned p true seen text c → IsFrontOf before (bytes_before p.opening ++ text) now → IsBrokenOff p bytes more before now c marks.NoMemory
starved_off p bytes more before now text frames seen others c at parts conditioned written = record {
  read = at.read;
  frames = seen;
  others = others ++ at.others;
  text = text;
  front = at.front;
  headed = at.headed;
  parted = at.parted ∙ ap (λ fs. fs ++ at.others) parts ∙ append_assoc seen others at.others;
  all = λ e. cc;
  conditioned = conditioned;
  written = written;
}

-- the device that takes bytes failed, or memory ran out for what it was to be given
pub unwritten_off : (p : Port) (gone : List FrameValue) (bytes more before now text : List ℕ) (progress : Progress) (frames : List FrameValue) (c : Conditioner) (fault : MarkFault)
    → progress.opening ≡ Some p.opening → IsUnderway gone bytes more progress → frames ≡ progress.piece
    → IsConditioned p true (gone ++ frames) text c → IsFrontOf before (bytes_before p.opening ++ text) now → IsBrokenOff p bytes more before now c fault
unwritten_off p gone bytes more before now text progress frames c fault headed at taken conditioned written =
    let all = whole_underway gone bytes more progress p.opening headed at in record {
      read = all.0;
      frames = gone ++ frames;
      others = [];
      text = text;
      front = all.1;
      headed = all.2;
      parted = all.3 ∙ ap (λ fs. gone ++ fs) (sym taken) ∙ sym (append-nil (gone ++ frames));
      all = λ e. refl;
      conditioned = conditioned;
      written = written;
    }

-- memory was there
pub well_by : (fault : PcapFault) → is_starved fault ≡ false → ¬ (Some fault ≡ Some pcaps.NoMemory)
well_by fault well starved = let is : true ≡ false = sym (ap is_starved (some_is fault pcaps.NoMemory starved)) ∙ well in cc
  where
    some_is : (a b : PcapFault) → Some a ≡ Some b → a ≡ b
    some_is a b e = cc

abbrev told : PcapFault → Result Bool PcapFault
told fault = Err fault

pub writable_by : (fault : PcapFault) → ¬ (told fault ≡ told pcaps.WriteFault) → ¬ (Some fault ≡ Some pcaps.WriteFault)
writable_by fault writable e = writable cc

-- the reading ended by a fault: want of memory breaks the marking off, and any other ends it
pub ended_turned : (p : Port) (bytes more before now text : List ℕ) (frames : List FrameValue) (fault : PcapFault) (progress : Progress) (c : Conditioner) (out : List ℕ)
    → IsFrontRead bytes more p.opening frames → ¬ (told fault ≡ told pcaps.WriteFault) → IsReading bytes more (Some p.opening) frames (Some fault)
    → IsConditioned p true frames text c → IsWrittenTo out before (bytes_before p.opening ++ text) now → IsTurned p bytes more before now progress c out (turned_by fault)
ended_turned p bytes more before now text frames fault progress c out at writable ended conditioned written = by (is_starved fault) refl
  where
    by : (starved : Bool) → is_starved fault ≡ starved → IsTurned p bytes more before now progress c out (if starved then Err marks.NoMemory else Ok (Ended (Some fault)))
    by true is =
        starved_off p bytes more before now text frames frames [] c at (sym (append-nil frames)) conditioned (front_written (bytes_before p.opening ++ text) out before now written)
    by false is = record {
      frames = frames;
      text = text;
      well = well_by fault is;
      writable = writable_by fault writable;
      ended = ended;
      conditioned = conditioned;
      written = written;
    }

pub ended_reads : (fault : PcapFault) (failed now calls : ℕ) → IsOfReads (is_read fault) failed now calls
    → IfOk (turned_by fault) (λ turn. IsOfReads (is_unread_in turn) failed now calls)
ended_reads fault failed now calls reads = by (is_starved fault)
  where
    by : (starved : Bool) → IfOk (if starved then Err marks.NoMemory else Ok (Ended (Some fault))) (λ turn. IsOfReads (is_unread_in turn) failed now calls)
    by true = tt
    by false = reads

-- it is no fault of the other device
pub ended_well : (fault : PcapFault) → ¬ (told fault ≡ told pcaps.WriteFault) → MatchResult (turned_by fault)
    (λ turn. (¬ (turn ≡ Ended (Some pcaps.WriteFault))) × (¬ (turn ≡ Ended (Some pcaps.NoMemory))))
    (λ f. (f ≡ marks.Capture pcaps.WriteFault) ⊎ (f ≡ marks.NoMemory))
ended_well fault writable = by (is_starved fault) refl
  where
    by : (starved : Bool) → is_starved fault ≡ starved → MatchResult (if starved then Err marks.NoMemory else Ok (Ended (Some fault)))
        (λ turn. (¬ (turn ≡ Ended (Some pcaps.WriteFault))) × (¬ (turn ≡ Ended (Some pcaps.NoMemory))))
        (λ f. (f ≡ marks.Capture pcaps.WriteFault) ⊎ (f ≡ marks.NoMemory))
    by true is = inr refl
    by false is = (λ e. writable_by fault writable cc, λ e. well_by fault is cc)

pub ended_unwritten : (fault : PcapFault) → is_write_fault (turned_by fault) ≡ false
ended_unwritten fault = by (is_starved fault)
  where
    by : (starved : Bool) → is_write_fault (if starved then Err marks.NoMemory else Ok (Ended (Some fault))) ≡ false
    by true = refl
    by false = refl

-- and no more comes
pub ended_last : (fault : PcapFault) → ¬ (turned_by fault ≡ Ok More)
ended_last fault = by (is_starved fault)
  where
    by : (starved : Bool) → ¬ ((if starved then Err marks.NoMemory else Ok (Ended (Some fault))) ≡ Ok More)
    by true e = cc
    by false e = cc

pub answer_unread : (verdict : Verdict) (report : Report) (fault : Option PcapFault) → is_unread (answer_of verdict report fault) ≡ is_unread_by fault
answer_unread verdict report None = refl
answer_unread verdict report (Some fault) = refl

-- a fault of the writing breaks the marking off
pub broken_off : (report : Report) (fault : MarkFault) → (fault ≡ marks.Capture pcaps.WriteFault) ⊎ (fault ≡ marks.NoMemory) → is_broken_off (Err (report, fault)) ≡ true
broken_off report fault (inl e) = ap (λ f. is_broken_off (Err (report, f))) e
broken_off report fault (inr e) = ap (λ f. is_broken_off (Err (report, f))) e

-- what is known of the device that gives bytes, by what is answered
pub of_reads : (answer : Result Report (Report × MarkFault)) (unread : Bool) (failed now calls : ℕ) → is_unread answer ≡ unread → IsOfReads unread failed now calls
    → IsOfReads (is_unread answer) failed now calls
of_reads answer unread failed now calls told reads = subst (λ u. IsOfReads u failed now calls) (sym told) reads

-- a fault of the reading that came before the opening was known
unheaded_unread : (report : Report) (fault : PcapFault) → is_unread (Err (report, fault_of fault)) ≡ is_read fault
unheaded_unread report pcaps.NotPcap = refl
unheaded_unread report pcaps.IsPcapng = refl
unheaded_unread report pcaps.BadVersion = refl
unheaded_unread report (pcaps.LinkType number) = refl
unheaded_unread report (pcaps.RecordTooLong count) = refl
unheaded_unread report pcaps.Truncated = refl
unheaded_unread report pcaps.ReadFault = refl
unheaded_unread report pcaps.WriteFault = refl
unheaded_unread report pcaps.NoMemory = refl
unheaded_unread report pcaps.Failed = refl
unheaded_unread report pcaps.BadMagic = refl
unheaded_unread report (pcaps.BadLength size) = refl
unheaded_unread report (pcaps.BlockTooLong size) = refl
unheaded_unread report pcaps.LengthsDiffer = refl
unheaded_unread report (pcaps.UnknownInterface number) = refl

pub unheaded_reads : (report : Report) (fault : PcapFault) (told : MarkFault) (failed now calls : ℕ) → told ≡ fault_of fault → IsOfReads (is_read fault) failed now calls
    → IsOfReads (is_unread (Err (report, told))) failed now calls
unheaded_reads report fault told failed now calls is reads =
    of_reads (Err (report, told)) (is_read fault) failed now calls (ap (λ f. is_unread (Err (report, f))) is ∙ unheaded_unread report fault) reads

-- frames that were taken in behind others, or a front of them, where what was decided before is collected
pub taken_in : {T E : Type 0} (result : Result T E) (p : Port) (gone frames : List FrameValue) (text before now out : List ℕ) (old new : Conditioner)
    → IsConditioned p true gone text old → IsWrittenTo out before (bytes_before p.opening ++ text) now
    → OnOk result ((seen : List FrameValue) (shown : List ℕ) → IsConditioned p true seen shown old → IsConditioned p true (seen ++ frames) shown new)
    → OnErr result ((seen : List FrameValue) (shown : List ℕ) → IsConditioned p true seen shown old
    → (front : List FrameValue) × (others : List FrameValue) × (frames ≡ front ++ others) × IsConditioned p true (seen ++ front) shown new)
    → MatchResult result
    (λ _. (after : List ℕ) × IsConditioned p true (gone ++ frames) after new × IsWrittenTo out before (bytes_before p.opening ++ after) now)
    (λ _. (after : List ℕ) × (front : List FrameValue) × (others : List FrameValue) × (frames ≡ front ++ others) × IsConditioned p true (gone ++ front) after new
    × IsFrontOf before (bytes_before p.opening ++ after) now)
taken_in (Ok value) p gone frames text before now out old new at written all part = (text, all gone text at, written)
taken_in (Err fault) p gone frames text before now out old new at written all part =
    let parts = part gone text at in
    (text, parts.0, parts.1, parts.2, parts.3, front_written (bytes_before p.opening ++ text) out before now written)

-- ---- what is answered, by what turns came to

failed_alike : (report : Report) (fault : MarkFault) → let unturned : Result (Option PcapFault) MarkFault = Err fault in is_unwritten (Err (report, fault)) ≡ is_write_fault unturned
failed_alike report (marks.Capture fault) = refl
failed_alike report marks.UnknownPort = refl
failed_alike report marks.JournalFull = refl
failed_alike report marks.NoMemory = refl

-- what the device that takes bytes counted, where its fault is not lost
pub ended_writes : (turned : Result (Option PcapFault) MarkFault) (answer : Result Report (Report × MarkFault)) (before middle now : ℕ) → middle ≡ failures_with (is_write_fault turned) before
    → now ≡ (if is_ok turned then failures_with (is_unwritten answer) middle else middle) → IsToldBy turned answer → now ≡ failures_with (is_unwritten answer) before
ended_writes (Ok fault) answer before middle now failures last told = last ∙ ap (failures_with (is_unwritten answer)) failures
ended_writes (Err fault) answer before middle now same last told =
    last ∙ same ∙ ap (λ b. failures_with b before) (sym (ap is_unwritten told.1 ∙ failed_alike told.0 fault))

-- and what the device that gives bytes did
pub ended_reading : (turned : Result (Option PcapFault) MarkFault) (answer : Result Report (Report × MarkFault)) (failed now calls : ℕ) → IsEndedWell turned → IsToldBy turned answer
    → IfOk turned (λ fault. IsOfReads (is_unread_by fault) failed now calls) → is_broken_off answer ≡ false → IsOfReads (is_unread answer) failed now calls
ended_reading (Ok fault) answer failed now calls well told reads whole = of_reads answer (is_unread_by fault) failed now calls (told whole) reads
ended_reading (Err fault) answer failed now calls well told reads whole =
    let off : is_broken_off answer ≡ true = ap is_broken_off told.1 ∙ broken_off told.0 fault well in
    let no : true ≡ false = sym off ∙ whole in
    absurd cc
