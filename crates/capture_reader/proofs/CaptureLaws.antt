-- What taking a piece comes to, in the format of a capture.
use Rattle.std.proofs.Common.{◌≡◌, ◌≢◌, ◌⊎◌, ℕ, ◌≤◌, Bool, true, false, List, [], ◌++◌, length, Option, None, Some, Result, Ok, Err, IfErr, IfOk, MatchResult, append-nil, refl, subst, sym, ap, ◌∙◌, inl, inr, arith}
use Rattle.pcap_capture.specs.Frames.{FrameValue}
use Rattle.pcap_capture.specs.Grammar as classic
use Rattle.pcap_capture.specs.Takings as takings
use Rattle.pcap_capture.specs.declared.fault.PcapFault.{PcapFault}
use Rattle.pcap_capture.specs.declared.fault.PcapFault.TheVariants.{Failed, NoMemory, ReadFault}
use Rattle.pcap_capture.specs.declared.heading.Heading.{Heading}
use Rattle.pcap_capture.specs.declared.stage.Stage.{Stage as ClassicStage}
use Rattle.pcap_capture.specs.declared.stage.Stage.TheVariants as stages
use Rattle.pcapng_capture.specs.Grammar as newer
use Rattle.pcapng_capture.specs.Readings as readings
use Rattle.pcapng_capture.specs.Packets.{SectionValue}
use Rattle.capture_reader.specs.Formats.{CaptureState, Reading, Stage, Stops, Unopened, after_opening, broken, capture, classic_stage, ending_at, newer_stage, of_blocks, of_records, opening_of, prepend, reading, stopped, waiting}
use Rattle.capture_reader.specs.Takings.{IsEnding, IsRead, IsTaken, state_of}
use Rattle.capture_reader.specs.declared.capture.Source.TheVariants as sources
use Rattle.capture_reader.specs.declared.opening.Opening.TheVariants.{Classic, Blocks}
use Rattle.capture_reader.proofs.FormatLaws.{are_records, classic_headed, on_blocks, on_records, records_stage, so_far}

-- a reading that waits for more, with all its frames
pub kept_waiting : (stage : Stage) (bytes : List ℕ) (frames : List FrameValue) (read : Reading) → read ≡ waiting stage bytes
    → record { frames = frames; fault = None; state = record { stage = stage; rest = bytes } } ≡ prepend frames read
kept_waiting stage bytes frames read w =
    sym (ap (prepend frames) w ∙ ap (λ (all : List FrameValue). record (waiting stage bytes) { frames = all }) (append-nil frames))

-- a fault stops the reading, with all its frames
pub kept_stopped : (fault : PcapFault) (frames : List FrameValue) (read : Reading) → read ≡ stopped fault → Stops (prepend frames read) frames fault
kept_stopped fault frames read e =
    inl (sym (ap (prepend frames) e ∙ ap (λ (all : List FrameValue). record (stopped fault) { frames = all }) (append-nil frames)))

-- want of memory stops it too
pub starved : (frames : List FrameValue) (read : Reading) → Stops (prepend frames read) frames NoMemory
starved frames read = inr (refl, (read.frames, refl))

-- a piece that was read, and so what is read of the bytes up to its end
taken : (tells : Type 0) (most : ℕ) (left more piece : List ℕ) (old new : CaptureState) (there frames : List FrameValue) (fault : Option PcapFault) → length piece ≤ most
    → (tells → left ≡ piece ++ more) → IsRead (prepend there (reading old piece)) new frames fault
    → (it : IsTaken tells most left more old new there frames fault) × (it.piece ≡ piece)
taken tells most left more piece old new there frames fault few given read = (
  record {
    piece = piece;
    few = few;
    given = given;
    read = read;
    so_far = λ bytes before at. subst (λ (r : Reading). IsRead r new frames fault) (sym (so_far bytes piece before there old at)) read;
  },
  refl,
)

-- ---- first bytes

-- a piece behind first bytes
pub first_taken : (tells : Type 0) (most count : ℕ) (left more piece rest text : List ℕ) (new : CaptureState) (there frames : List FrameValue) (fault : Option PcapFault)
    → text ≡ rest ++ piece → length piece ≡ count → count ≤ most → (tells → left ≡ piece ++ more) → IsRead (prepend there (capture text)) new frames fault
    → (it : IsTaken tells most left more (record { stage = Unopened; rest = rest }) new there frames fault) × (length it.piece ≡ count)
first_taken tells most count left more piece rest text new there frames fault behind counted few given read =
    let it = taken tells most left more piece (record { stage = Unopened; rest = rest }) new there frames fault (omega (arith, counted, few)) given
    (subst (λ (t : List ℕ). IsRead (prepend there (capture t)) new frames fault) behind read) in
    (it.0, ap length it.1 ∙ counted)

-- nothing is taken where there is no memory for it
pub first_starved : (tells : Type 0) (most : ℕ) (left : List ℕ) (old : CaptureState) (there : List FrameValue) → IsTaken tells most left left old broken there there (Some NoMemory)
first_starved tells most left old there =
    (taken tells most left left [] old broken there there (Some NoMemory) (omega arith) (λ _. refl) (refl, starved there (reading old []))).0

-- no piece is taken for a capture in which a fault was found
pub broken_again : (tells : Type 0) (most : ℕ) (left : List ℕ) (there : List FrameValue) → IsTaken tells most left left broken broken there there (Some Failed)
broken_again tells most left there =
    (taken tells most left left [] broken broken there there (Some Failed) (omega arith) (λ _. refl) (refl, kept_stopped Failed there (reading broken []) refl)).0

-- ---- the classic format

abbrev classic_state : classic.CaptureState → CaptureState
classic_state s = state_of (sources.Records s)

stops_records : (wanted : classic.Reading) (frames : List FrameValue) (fault : PcapFault) → classic.Stops wanted frames fault → Stops (of_records wanted) frames fault
stops_records wanted frames fault (inl found) = inl (ap of_records found)
stops_records wanted frames fault (inr memory) = inr memory

module _ (old new : classic.CaptureState) (there frames : List FrameValue) (piece : List ℕ) (opened : old.stage ≢ stages.Opening) where
  same : prepend there (of_records (classic.reading old piece)) ≡ prepend there (reading (classic_state old) piece)
  same = ap (prepend there) (on_records old.stage (old.rest ++ piece) opened)

  read_records : (fault : Option PcapFault) → takings.IsRead (classic.prepend there (classic.reading old piece)) new frames fault
      → IsRead (prepend there (reading (classic_state old) piece)) (classic_state new) frames fault
  read_records None read = ap of_records read ∙ same
  read_records (Some fault) read =
      (ap classic_state read.0, subst (λ (r : Reading). Stops r frames fault) same (stops_records (classic.prepend there (classic.reading old piece)) frames fault read.1))

  -- a capture that has its heading has it still
  pub stays_opened : (fault : Option PcapFault) → takings.IsRead (classic.prepend there (classic.reading old piece)) new frames fault → new.stage ≢ stages.Opening
  stays_opened None read = by old.stage refl
    where
      by : (stage : ClassicStage) → old.stage ≡ stage → new.stage ≢ stages.Opening
      by stages.Opening is = absurd (opened is)
      by (stages.Records heading) is =
          let made : classic.reading old piece ≡ classic.records heading (old.rest ++ piece) = ap (λ s. classic.read_on s (old.rest ++ piece)) is in
          let none = sym (ap (λ (r : classic.Reading). r.fault) made) ∙ sym (ap (λ (r : classic.Reading). r.fault) read) in
          are_records new.stage heading (ap (λ (r : classic.Reading). r.state.stage) read ∙ ap (λ (r : classic.Reading). r.state.stage) made ∙ records_stage heading (old.rest ++ piece) none)
      by stages.Broken is =
          let made : classic.reading old piece ≡ classic.stopped Failed = ap (λ s. classic.read_on s (old.rest ++ piece)) is in
          let no : None ≡ Some Failed = ap (λ (r : classic.Reading). r.fault) read ∙ ap (λ (r : classic.Reading). r.fault) made in
          absurd cc
  stays_opened (Some fault) read = λ e. let no : stages.Broken ≡ stages.Opening = sym (ap (λ (s : classic.CaptureState). s.stage) read.0) ∙ e in cc

module _ (tells : Type 0) (most : ℕ) (left more : List ℕ) (old new : classic.CaptureState) (there frames : List FrameValue) (opened : old.stage ≢ stages.Opening) where
  records_taken : (fault : Option PcapFault) (was : takings.IsTaken tells most left more old new there frames fault)
      → (it : IsTaken tells most left more (classic_state old) (classic_state new) there frames fault) × (it.piece ≡ was.piece)
  records_taken fault was =
      taken tells most left more was.piece (classic_state old) (classic_state new) there frames fault was.few was.given (read_records old new there frames was.piece opened fault was.read)

  pub records_ok : (result : Result ℕ PcapFault) → IfOk result (λ count. (it : takings.IsTaken tells most left more old new there frames None) × (length it.piece ≡ count))
      → IfOk result (λ count. (it : IsTaken tells most left more (classic_state old) (classic_state new) there frames None) × (length it.piece ≡ count))
  records_ok (Ok count) has = let it = records_taken None has.0 in (it.0, ap length it.1 ∙ has.1)
  records_ok (Err fault) has = tt

  pub records_err : (result : Result ℕ PcapFault)
      → IfErr result (λ fault. ((fault ≡ ReadFault) × (new ≡ old) × (frames ≡ there) × (tells → more ≡ left)) ⊎ takings.IsTaken tells most left more old new there frames (Some fault))
      → IfErr result (λ fault. ((fault ≡ ReadFault) × (classic_state new ≡ classic_state old) × (frames ≡ there) × (tells → more ≡ left))
      ⊎ IsTaken tells most left more (classic_state old) (classic_state new) there frames (Some fault))
  records_err (Ok count) has = tt
  records_err (Err fault) (inl unread) = inl (unread.0, ap classic_state unread.1, unread.2, unread.3)
  records_err (Err fault) (inr was) = inr (records_taken (Some fault) was).0

  pub still_opened : (result : Result ℕ PcapFault) → IfOk result (λ count. (it : takings.IsTaken tells most left more old new there frames None) × (length it.piece ≡ count))
      → IfErr result (λ fault. ((fault ≡ ReadFault) × (new ≡ old) × (frames ≡ there) × (tells → more ≡ left)) ⊎ takings.IsTaken tells most left more old new there frames (Some fault))
      → new.stage ≢ stages.Opening
  still_opened (Ok count) ok err = stays_opened old new there frames ok.0.piece opened None ok.0.read
  still_opened (Err fault) ok (inl unread) = subst (λ (s : classic.CaptureState). s.stage ≢ stages.Opening) (sym unread.1) opened
  still_opened (Err fault) ok (inr was) = stays_opened old new there frames was.piece opened (Some fault) was.read

-- its end
ending_records_at : (stage : ClassicStage) (rest : List ℕ) → ending_at (classic_stage stage) (length rest) ≡ classic.ending (record { stage = stage; rest = rest })
ending_records_at stages.Opening rest = refl
ending_records_at (stages.Records heading) rest = refl
ending_records_at stages.Broken rest = refl

pub records_end : (old new : classic.CaptureState) (result : Result (Unit {0}) PcapFault)
    → MatchResult result (λ _. (classic.ending old ≡ None) × (new ≡ old)) (λ fault. (classic.ending old ≡ Some fault) × (new ≡ classic.broken))
    → IsEnding (classic_state old) (classic_state new) result
records_end old new (Ok done) is = (ending_records_at old.stage old.rest ∙ is.0, ap classic_state is.1)
records_end old new (Err fault) is = (ending_records_at old.stage old.rest ∙ is.0, ap classic_state is.1)

pub end_opened : (old new : classic.CaptureState) (result : Result (Unit {0}) PcapFault) → old.stage ≢ stages.Opening
    → MatchResult result (λ _. (classic.ending old ≡ None) × (new ≡ old)) (λ fault. (classic.ending old ≡ Some fault) × (new ≡ classic.broken))
    → new.stage ≢ stages.Opening
end_opened old new (Ok done) opened is = subst (λ (s : classic.CaptureState). s.stage ≢ stages.Opening) (sym is.1) opened
end_opened old new (Err fault) opened is = λ e. let no : stages.Broken ≡ stages.Opening = sym (ap (λ (s : classic.CaptureState). s.stage) is.1) ∙ e in cc

-- its first bytes
pub first_records : (bytes : List ℕ) (heading : Heading) → opening_of bytes ≡ Some (Ok (Classic heading)) → capture bytes ≡ of_records (classic.capture bytes)
unfolding capture classic.capture
first_records bytes heading h =
    ap (after_opening bytes) h ∙ sym (ap (λ found. of_records (classic.after_heading bytes found)) (classic_headed bytes heading h))

first_stage : (bytes : List ℕ) (heading : Heading) → opening_of bytes ≡ Some (Ok (Classic heading)) → (classic.capture bytes).fault ≡ None → (classic.capture bytes).state.stage ≡ stages.Records heading
unfolding classic.capture
first_stage bytes heading h none =
    let made = ap (classic.after_heading bytes) (classic_headed bytes heading h) in
    ap (λ (r : classic.Reading). r.state.stage) made ∙ records_stage heading _ (sym (ap (λ (r : classic.Reading). r.fault) made) ∙ none)

module _ (bytes : List ℕ) (heading : Heading) (h : opening_of bytes ≡ Some (Ok (Classic heading))) (there frames : List FrameValue) where
  pub records_first : (new : classic.CaptureState) → record { frames = frames; fault = None; state = new } ≡ classic.prepend there (classic.capture bytes)
      → (record { frames = frames; fault = None; state = classic_state new } ≡ prepend there (capture bytes)) × (new.stage ≢ stages.Opening)
  records_first new read = (
    ap of_records read ∙ ap (prepend there) (sym (first_records bytes heading h)),
    are_records new.stage heading (ap (λ (r : classic.Reading). r.state.stage) read ∙ first_stage bytes heading h (sym (ap (λ (r : classic.Reading). r.fault) read))),
  )

  pub records_stop : (fault : PcapFault) → classic.Stops (classic.prepend there (classic.capture bytes)) frames fault → Stops (prepend there (capture bytes)) frames fault
  records_stop fault stops =
      subst (λ (r : Reading). Stops (prepend there r) frames fault) (sym (first_records bytes heading h)) (stops_records (classic.prepend there (classic.capture bytes)) frames fault stops)

-- ---- the newer format

abbrev newer_state : newer.CaptureState → CaptureState
newer_state s = state_of (sources.Blocks s)

stops_blocks : (wanted : newer.Reading) (frames : List FrameValue) (fault : PcapFault) → readings.Stops wanted frames fault → Stops (of_blocks wanted) frames fault
stops_blocks wanted frames fault (inl found) = inl (ap of_blocks found)
stops_blocks wanted frames fault (inr memory) = inr memory

module _ (tells : Type 0) (most : ℕ) (left more : List ℕ) (old new : newer.CaptureState) (there frames : List FrameValue) where
  same_blocks : (piece : List ℕ) → prepend there (of_blocks (newer.reading old piece)) ≡ prepend there (reading (newer_state old) piece)
  same_blocks piece = ap (prepend there) (on_blocks old.is_broken old.section (old.rest ++ piece))

  read_blocks : (piece : List ℕ) (fault : Option PcapFault) → readings.IsRead (newer.prepend there (newer.reading old piece)) new frames fault
      → IsRead (prepend there (reading (newer_state old) piece)) (newer_state new) frames fault
  read_blocks piece None read = ap of_blocks read ∙ same_blocks piece
  read_blocks piece (Some fault) read =
      (ap newer_state read.0, subst (λ (r : Reading). Stops r frames fault) (same_blocks piece) (stops_blocks (newer.prepend there (newer.reading old piece)) frames fault read.1))

  blocks_taken : (fault : Option PcapFault) (was : readings.IsTaken tells most left more old new there frames fault)
      → (it : IsTaken tells most left more (newer_state old) (newer_state new) there frames fault) × (it.piece ≡ was.piece)
  blocks_taken fault was =
      taken tells most left more was.piece (newer_state old) (newer_state new) there frames fault was.few was.given (read_blocks was.piece fault was.read)

  pub blocks_ok : (result : Result ℕ PcapFault) → IfOk result (λ count. (it : readings.IsTaken tells most left more old new there frames None) × (length it.piece ≡ count))
      → IfOk result (λ count. (it : IsTaken tells most left more (newer_state old) (newer_state new) there frames None) × (length it.piece ≡ count))
  blocks_ok (Ok count) has = let it = blocks_taken None has.0 in (it.0, ap length it.1 ∙ has.1)
  blocks_ok (Err fault) has = tt

  pub blocks_err : (result : Result ℕ PcapFault)
      → IfErr result (λ fault. ((fault ≡ ReadFault) × (new ≡ old) × (frames ≡ there) × (tells → more ≡ left)) ⊎ readings.IsTaken tells most left more old new there frames (Some fault))
      → IfErr result (λ fault. ((fault ≡ ReadFault) × (newer_state new ≡ newer_state old) × (frames ≡ there) × (tells → more ≡ left))
      ⊎ IsTaken tells most left more (newer_state old) (newer_state new) there frames (Some fault))
  blocks_err (Ok count) has = tt
  blocks_err (Err fault) (inl unread) = inl (unread.0, ap newer_state unread.1, unread.2, unread.3)
  blocks_err (Err fault) (inr was) = inr (blocks_taken (Some fault) was).0

ending_blocks_at : (is_broken : Bool) (section : SectionValue) (count : ℕ) → ending_at (newer_stage is_broken section) count ≡ newer.ending_by is_broken section.order count
ending_blocks_at true section count = refl
ending_blocks_at false section count = refl

pub blocks_end : (old new : newer.CaptureState) (result : Result (Unit {0}) PcapFault)
    → MatchResult result (λ _. (newer.ending old ≡ None) × (new ≡ old)) (λ fault. (newer.ending old ≡ Some fault) × (new ≡ newer.broken))
    → IsEnding (newer_state old) (newer_state new) result
blocks_end old new (Ok done) is = (ending_blocks_at old.is_broken old.section (length old.rest) ∙ is.0, ap newer_state is.1)
blocks_end old new (Err fault) is = (ending_blocks_at old.is_broken old.section (length old.rest) ∙ is.0, ap newer_state is.1)

pub first_blocks : (bytes : List ℕ) → opening_of bytes ≡ Some (Ok Blocks) → capture bytes ≡ of_blocks (newer.capture bytes)
unfolding capture
first_blocks bytes h = ap (after_opening bytes) h

module _ (bytes : List ℕ) (h : opening_of bytes ≡ Some (Ok Blocks)) (there frames : List FrameValue) where
  pub blocks_first : (new : newer.CaptureState) → record { blocks = frames; fault = None; state = new } ≡ newer.prepend there (newer.capture bytes)
      → record { frames = frames; fault = None; state = newer_state new } ≡ prepend there (capture bytes)
  blocks_first new read = ap of_blocks read ∙ ap (prepend there) (sym (first_blocks bytes h))

  pub blocks_stop : (fault : PcapFault) → readings.Stops (newer.prepend there (newer.capture bytes)) frames fault → Stops (prepend there (capture bytes)) frames fault
  blocks_stop fault stops =
      subst (λ (r : Reading). Stops (prepend there r) frames fault) (sym (first_blocks bytes h)) (stops_blocks (newer.prepend there (newer.capture bytes)) frames fault stops)
