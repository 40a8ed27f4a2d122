-- Lots that go through lanes from thread to thread, and the texts that come of them.
use Rattle.std.specs.Prelude.{◌≡◌, ◌⊎◌, ℕ, ◌+◌, ◌≤◌, ◌<◌, Bool, true, false, List, [], ◌∷◌, ◌++◌, length, Option, None, Some, Result, Ok, Err, IfErr, IfNone, IfOk, IfSome, OnOk, ⊤}
use Rattle.capture_reader.specs.Formats.{bytes_before}
use Rattle.pcap_capture.specs.Counts.{IsOfReads}
use Rattle.pcap_capture.specs.Frames.{FrameValue}
use Rattle.pcap_capture.specs.Fronts.{IsFrontOf}
use Rattle.pcap_capture.specs.Takings.{is_read_fault}
use Rattle.pcap_capture.specs.declared.fault.PcapFault.{PcapFault}
use Rattle.pcap_capture.specs.declared.fault.PcapFault.TheVariants.{WriteFault as PcapWriteFault}
use Rattle.capture_reader.specs.declared.opening.Opening.{Opening}
use Rattle.ds_conditioner.specs.Conditionings.{IsBounded, IsConditioned, IsSeenAtPort}
use Rattle.ds_conditioner.specs.Handings.{IsPassedInPart, IsPassedWhole}
use Rattle.ds_conditioner.specs.Lots.{LotValue}
use Rattle.ds_conditioner.specs.declared.conditioner.Conditioner.{Conditioner}
use Rattle.ds_conditioner.specs.declared.port.Port.{Port}
use Rattle.capture_reader.specs.Readings.{IsReadOn, IsUnderway, read_by}
use Rattle.ds_marking.specs.Passings.{IsRoomy, IsTurnedTo}
use Rattle.ds_marking.specs.Writings.{IsBreak, failures_with, is_write_fault}
use Rattle.ds_marking.specs.declared.fault.MarkFault.{MarkFault}
use Rattle.ds_marking.specs.declared.fault.MarkFault.TheVariants.{NoMemory}
use Rattle.ds_marking.specs.declared.marking.Passage.{Passage}
use Rattle.ds_marking.specs.declared.marking.Turn.{Turn}
use Rattle.ds_conductor.specs.declared.laning.Between.{Between}
use Rattle.ds_conductor.specs.declared.run.Lanes.{Lanes}
use Rattle.ds_conductor.specs.declared.run.Run.{Run}
use Rattle.capture_reader.specs.declared.reading.Progress.{Progress}
use Rattle.capture_reader.specs.declared.reading.Read.{Read}

-- the frames of the lots that went through a lane; what is no lot is their end
abbrev pub frames_of : List (Option LotValue) → List FrameValue
frames_of [] = []
frames_of (None ∷ items) = frames_of items
frames_of (Some lot ∷ items) = lot.frames ++ frames_of items

-- how many lots went through it
abbrev pub count_of : List (Option LotValue) → ℕ
count_of [] = 0
count_of (None ∷ items) = count_of items
count_of (Some lot ∷ items) = 1 + count_of items

-- what was seen of each lot was seen at a port
abbrev pub IsRight : Port → Option LotValue → Type 0
IsRight p item = IfSome item (λ lot. IsSeenAtPort p lot)

abbrev pub AreRight : Port → List (Option LotValue) → Type 0
AreRight p [] = ⊤
AreRight p (item ∷ items) = IsRight p item × AreRight p items

-- texts, one behind the other
abbrev pub joined : List (List ℕ) → List ℕ
joined [] = []
joined (text ∷ texts) = text ++ joined texts

-- What a thread or a lane passes on of lots: no more than came, and where as many as came, their frames; and what was
-- seen of these was seen at a port, if it was before.
pub record IsAlong (p : Port) (came went : List (Option LotValue)) : Type 0 where
  pub count : count_of went ≤ count_of came
  pub frames : count_of went ≡ count_of came → frames_of went ≡ frames_of came
  pub right : AreRight p came → AreRight p went

-- what taking in frames comes to, with memory for all of it or not
abbrev pub IsPassedBy : Bool → Port → Conditioner → Conditioner → List FrameValue → List ℕ → Type 0
IsPassedBy false p old new frames text = IsPassedWhole p old new frames text
IsPassedBy true p old new frames text = IsPassedInPart p old new frames text

-- Lots were taken in, and their text was put, a text for each; or there was no memory for some of it.
pub record AreLotsPassed (starved : Bool) (p : Port) (old new : Conditioner) (taken : List (Option LotValue))
    (put : List (List ℕ)) : Type 0 where
  pub even : length put ≡ count_of taken
  pub records : new.counts.records ≤ old.counts.records + length (frames_of taken)
  pub passed : AreRight p taken → IsPassedBy starved p old new (frames_of taken) (joined put)
  pub still : count_of taken ≡ 0 → (starved ≡ false) × (new ≡ old)

-- One lot more was taken in, and this is the text that is put for it; or there was no memory, now or before.
pub record IsLotPassedOn (p : Port) (old new : Conditioner) (lot : LotValue) (starved now : Bool) (text : List ℕ) : Type 0
  where
    pub records : new.counts.records ≤ old.counts.records + length lot.frames
    pub stays : starved ≡ true → (now ≡ true) × (new ≡ old) × (text ≡ [])
    pub passed : starved ≡ false → IsSeenAtPort p lot → IsPassedBy now p old new lot.frames text

-- What reading on comes to that ended, or was broken off behind whole lots.
abbrev pub IsFedOn : List FrameValue → List ℕ → List ℕ → Progress → Result Read MarkFault → Type 0
IsFedOn gone bytes more progress (Ok read) = IsReadOn gone bytes more progress (read_by read)
IsFedOn gone bytes more progress (Err fault) = IsUnderway gone bytes more progress

-- What reading lots and putting them into a lane comes to, where a device tells the bytes that it had and those that it
-- still has: the frames of the lots were read, and what was seen of them was seen at a port.
pub record IsFed (p : Port) (tells : Type 0) (left more : List ℕ) (before after : Progress) (put : List (Option LotValue))
    (result : Result Read MarkFault) : Type 0 where
  pub right : AreRight p put
  pub read : (gone : List FrameValue) (bytes : List ℕ) → tells → IsUnderway gone bytes left before
      → IsFedOn (gone ++ frames_of put) bytes more after result
  pub stays : (opening : Opening) (gone : List FrameValue) (bytes : List ℕ) → tells → IsUnderway gone bytes left before
      → before.opening ≡ Some opening → after.opening ≡ Some opening

-- All texts that came are written behind what stood, or a front of them.
abbrev pub AreWritten : {T E : Type 0} → Result T E → List ℕ → List ℕ → List ℕ → Type 0
AreWritten (Ok done) before text after = after ≡ before ++ text
AreWritten (Err fault) before text after = IsFrontOf before text after

-- where reading was broken off, nothing more is written
abbrev pub IsCutWith : Result Read MarkFault → Result (Unit {0}) MarkFault → Type 0
IsCutWith (Ok read) written = ⊤
IsCutWith (Err fault) written = written ≡ Err fault

-- nothing was read behind what is taken out, and nothing went through these lanes
abbrev pub IsIdle : {A B : Type 0} → Progress → List A → List B → Type 0
IsIdle progress taken put = (progress.missing ≤ 24) × (progress.piece ≡ []) × (taken ≡ []) × (put ≡ [])

-- whether something was done, whatever it gave
abbrev pub done_of : {T : Type 0} → Result T MarkFault → Result (Unit {0}) MarkFault
done_of (Ok value) = Ok tt
done_of (Err fault) = Err fault

-- one text more was taken, and written by a device that tells its bytes, or a front of it
abbrev pub IsNextWritten : Type 0 → List ℕ → List ℕ → List (List ℕ) → List (List ℕ) → Result (Unit {0}) MarkFault → Type 0
IsNextWritten tells held now taken taken_now result =
    (text : List ℕ) × (taken_now ≡ taken ++ text ∷ []) × (tells → AreWritten result held text now)

-- What a device gave of which lots were made, by what it tells, has left, still answers and counts, before and after.
pub record IsFedFrom {A : Type 0} (p : Port) (tells : A → Type 0) (left : A → List ℕ) (calls failed : A → ℕ) (old new : A)
    (before after : Progress) (put : List (Option LotValue)) (result : Result Read MarkFault) : Type 0 where
  pub fed : IsFed p (tells old) (left old) (left new) before after put result
  pub given : tells old → tells new
  pub missing : after.missing ≤ before.missing
  pub fewer : IfOk result (λ read. OnOk (read_by read) (calls new < calls old))
  pub reads : IfOk result (λ read. IsOfReads (is_read_fault (read_by read)) (failed old) (failed new) (calls new))
  pub no_write : IfOk result (λ read. ¬ (read_by read ≡ Err PcapWriteFault))

-- What another device took of the texts that came, by what it tells, holds and counts, before and after.
pub record IsGiven {A : Type 0} (tells : A → Type 0) (held : A → List ℕ) (failed : A → ℕ) (old new : A)
    (taken : List (List ℕ)) (result : Result (Unit {0}) MarkFault) : Type 0 where
  pub told : tells old → tells new
  pub written : tells old → AreWritten result (held old) (joined taken) (held new)
  pub fault : IfErr result IsBreak
  pub failures : failed new ≡ failures_with (is_write_fault result) (failed old)

-- And what it took of them behind others.
pub record IsGivenMore {A : Type 0} (tells : A → Type 0) (held : A → List ℕ) (failed : A → ℕ) (old new : A)
    (taken taken_now : List (List ℕ)) (result : Result (Unit {0}) MarkFault) : Type 0 where
  pub told : tells old → tells new
  pub written : tells old → (first : List ℕ) → held old ≡ first ++ joined taken
      → AreWritten result first (joined taken_now) (held new)
  pub fault : IfErr result IsBreak
  pub failures : failed new ≡ failures_with (is_write_fault result) (failed old)

-- What the thread of both devices came to: lots were fed, and as many texts were taken; or nothing was done.
pub record AreFed {A B : Type 0} (p : Port) (tells : A → Type 0) (left : A → List ℕ) (calls failed : A → ℕ) (old new : A)
    (shows : B → Type 0) (held : B → List ℕ) (failures : B → ℕ) (was now : B) (before after : Progress)
    (put : List (Option LotValue)) (taken : List (List ℕ))
    (result : Option (Result Read MarkFault × Result (Unit {0}) MarkFault)) : Type 0 where
  pub even : length taken ≡ count_of put
  pub fed : IfSome result (λ it. IsFedFrom p tells left calls failed old new before after put it.0)
  pub given : IfSome result (λ it. IsGiven shows held failures was now taken it.1)
  pub cut : IfSome result (λ it. IsCutWith it.0 it.1)
  pub nothing : IfNone result ((put ≡ []) × (after ≡ before) × (new ≡ old) × (now ≡ was))

-- The lots that were put were taken in, with memory for all of them or not, and these are their texts.
pub record IsPassedThrough (starved : Bool) (p : Port) (old new : Conditioner) (put : List (Option LotValue))
    (taken : List (List ℕ)) : Type 0 where
  pub records : new.counts.records ≤ old.counts.records + length (frames_of put)
  pub passed : IsPassedBy starved p old new (frames_of put) (joined taken)

-- What a run of threads came to: lots were fed, taken in by the conditioner of a passage, and their texts were written.
pub record IsRun {A B : Type 0} (tells : A → Type 0) (left : A → List ℕ) (calls failed : A → ℕ) (old new : A)
    (shows : B → Type 0) (held : B → List ℕ) (failures : B → ℕ) (was now : B) (before after : Passage) (run : Run) : Type 0
  where
    pub put : List (Option LotValue)
    pub taken : List (List ℕ)
    pub fed : IsFedFrom before.port tells left calls failed old new before.progress after.progress put run.read
    pub given : IsGiven shows held failures was now taken run.written
    pub cut : IsCutWith run.read run.written
    pub passed : IsPassedThrough run.starved before.port before.conditioner after.conditioner put taken

-- a passage that stands between two runs of threads: all frames that were read are seen
abbrev pub IsResting : Passage → Type 0
IsResting passage = (passage.progress.missing ≤ 24) × (passage.progress.piece ≡ []) × IsBounded passage.conditioner

-- of a passage only what was read and what is conditioned changed
abbrev pub IsKept : Passage → Passage → Type 0
IsKept old new = IsBounded new.conditioner × (new.port ≡ old.port) × (new.out ≡ old.out)

-- What is answered of a run of threads: what they came to, or none where nothing was done.
pub record IsRunAnswered {A B : Type 0} (tells : A → Type 0) (left : A → List ℕ) (calls failed : A → ℕ) (old new : A)
    (shows : B → Type 0) (held : B → List ℕ) (failures : B → ℕ) (was now : B) (before after : Passage)
    (result : Option Run) : Type 0 where
  pub kept : IsKept before after
  pub ran : IfSome result (λ run. IsRun tells left calls failed old new shows held failures was now before after run)
  pub nothing : IfNone result ((after ≡ before) × (new ≡ old) × (now ≡ was))

-- nothing went through the lanes that a thread stands between
abbrev pub IsUnused : {T U : Type 0} → Between T U → Type 0
IsUnused between = (between.from.taken ≡ []) × (between.to.put ≡ [])

-- they are still the same
abbrev pub AreSameEnds : {T U : Type 0} → Between T U → Between T U → Type 0
AreSameEnds old new = (new.from.lane ≡ old.from.lane) × (new.to.lane ≡ old.to.lane)

-- what each of two threads puts comes to the other
abbrev pub AreJoined : Lanes → Type 0
AreJoined lanes = (lanes.core.from.lane ≡ lanes.devices.to.lane) × (lanes.devices.from.lane ≡ lanes.core.to.lane)

-- nothing was read behind what is taken out, and nothing went through lanes
abbrev pub AreFresh : Progress → Lanes → Type 0
AreFresh progress lanes = IsIdle progress lanes.devices.from.taken lanes.devices.to.put × IsUnused lanes.core

-- A thread that sees lots passed them on through its lanes.
pub record IsSeenAlong (p : Port) (old new : Between (Option LotValue) (Option LotValue)) : Type 0 where
  pub ends : AreSameEnds old new
  pub along : IsAlong p new.from.taken new.to.put

-- What two threads came to: the one took in the lots that came to it, with memory for all of them or not, and the other
-- fed lots through its lanes, or did nothing.
pub record AreFedAndPassed {A B : Type 0} (p : Port) (tells : A → Type 0) (left : A → List ℕ) (calls failed : A → ℕ)
    (old new : A) (shows : B → Type 0) (held : B → List ℕ) (failures : B → ℕ) (was now : B) (before after : Progress)
    (conditioner conditioned : Conditioner) (lanes through : Lanes)
    (result : Bool × Option (Result Read MarkFault × Result (Unit {0}) MarkFault)) : Type 0 where
  pub bounded : IsBounded conditioned
  pub devices : AreSameEnds lanes.devices through.devices
  pub core : AreSameEnds lanes.core through.core
  pub passed : AreLotsPassed result.0 p conditioner conditioned through.core.from.taken through.core.to.put
  pub fed : AreFed p tells left calls failed old new shows held failures was now before after through.devices.to.put
      through.devices.from.taken result.1

-- what reading came to last: where it was broken off behind whole lots, more may come
abbrev pub read_last : Result Read MarkFault → Result Bool PcapFault
read_last (Ok read) = read_by read
read_last (Err fault) = Ok true

-- Frames were taken in behind others, and this text was handed out behind that of those; or there was no memory for all
-- of it.
abbrev pub IsTakenIn : Bool → Port → List FrameValue → List FrameValue → List ℕ → List ℕ → Conditioner → Type 0
IsTakenIn false p gone taken text own c = IsConditioned p true (gone ++ taken) (text ++ own) c
IsTakenIn true p gone taken text own c = (front : List FrameValue) × (others : List FrameValue) × (lost : List ℕ)
    × (taken ≡ front ++ others) × IsConditioned p true (gone ++ front) ((text ++ own) ++ lost) c

-- What a device counted whose fault is known before: it is told, or want of memory in its place; and else as always.
abbrev pub IsFailingAfter : Result (Unit {0}) MarkFault → Result Turn MarkFault → ℕ → ℕ → Type 0
IsFailingAfter (Ok done) result before now = now ≡ failures_with (is_write_fault result) before
IsFailingAfter (Err fault) result before now = (now ≡ before) × ((result ≡ Err fault) ⊎ (result ≡ Err NoMemory))

-- what threads came to that can be ended: there is room for what was read, and no fault of the writing was read
pub record IsEndable (passage : Passage) (run : Run) : Type 0 where
  pub room : IsRoomy passage
  pub no_write : ¬ (read_last run.read ≡ Err PcapWriteFault)
  pub fault : IfErr run.written IsBreak

-- What ending a run comes to, however much was read, taken in and written by then.
abbrev pub IsRunEnded : List ℕ → List ℕ → Passage → Passage → Run → Result Turn MarkFault → Type 0
IsRunEnded held now old new run result = (bytes more before text own : List ℕ) (gone taken : List FrameValue)
    → old.progress.opening ≡ Some old.port.opening
    → IsReadOn (gone ++ taken) bytes more old.progress (read_last run.read)
    → IsTakenIn run.starved old.port gone taken text own old.conditioner
    → AreWritten run.written before (bytes_before old.port.opening ++ (text ++ own)) held → old.out.items ≡ []
    → IsTurnedTo bytes more before now new result
