-- What was read of a capture, as far as it was read.
use Rattle.std.proofs.Common.{◌≡◌, ◌⊎◌, ℕ, ◌-◌, ◌<◌, ◌≤◌, Bool, true, false, List, [], ◌∷◌, ◌++◌, length, drop, Option, None, Some, Result, Ok, Err, append_assoc, append-nil, length-append, refl, subst, sym, ◌∙◌, ap, inl, inr, arith}
use Rattle.pcap_capture.specs.Frames.{FrameValue}
use Rattle.pcap_capture.specs.declared.fault.PcapFault.{PcapFault}
use Rattle.pcap_capture.specs.declared.fault.PcapFault.TheVariants as pcaps
use Rattle.pcap_capture.specs.declared.fault.PcapFault.TheVariants.{ReadFault, Truncated}
use Rattle.pcapng_capture.specs.Grammar as newer
use Rattle.capture_reader.specs.Formats.{CaptureState, IsSoFar, Reading, Stage, Stops, Unopened, Records, Sections, Broken, after_opening, capture, classic_stage, continued_from, fault_after, fault_in, newer_stage, opening_at, opening_of, prepend, read_on, reading}
use Rattle.capture_reader.specs.Readings.{is_starved, is_starving, IsEnded, IsOpeningTold, IsReading, IsReadOn, IsReadTo, IsUnderway, opening_in}
use Rattle.capture_reader.specs.declared.opening.Opening.{Opening}
use Rattle.capture_reader.specs.declared.opening.Opening.TheVariants.{Classic, Blocks}
use Rattle.capture_reader.specs.declared.reading.Progress.{Progress}
use Rattle.capture_reader.proofs.FormatLaws.{blocks_whole, capture-cut, opening-append, opening_alone, opening_waits, records_stage, so_far}

told_behind : (read : List ℕ) (opening : Opening) → (after_opening read (Some (Ok opening))).fault ≡ None → opening_at (after_opening read (Some (Ok opening))).state.stage ≡ Some opening
told_behind read (Classic opening) none = ap (λ s. opening_at (classic_stage s)) (records_stage opening (drop 24 read) none)
told_behind read Blocks none = ap (λ b. opening_at (newer_stage b (newer.blocks newer.no_section read).state.section)) (blocks_whole newer.no_section read none)

told_at : (read : List ℕ) (stage : Stage) (found : Option (Result Opening PcapFault)) → opening_of read ≡ found → (after_opening read found).fault ≡ None
    → (after_opening read found).state.stage ≡ stage → opening_in read (opening_at stage)
told_at read stage None e none is = subst (λ s. opening_in read (opening_at s)) is (λ opening h. cc)
told_at read stage (Some (Err fault)) e none is = absurd cc
told_at read stage (Some (Ok opening)) e none is =
    subst (λ o. opening_in read o) (sym (told_behind read opening none) ∙ ap opening_at is) e

so_far_fault : (read : List ℕ) (state : CaptureState) (frames : List FrameValue) → IsSoFar read [] state frames → (capture read).fault ≡ None
so_far_fault read state frames h = sym (ap (λ (r : Reading). r.fault) h)

so_far_frames : (read : List ℕ) (state : CaptureState) (frames : List FrameValue) → IsSoFar read [] state frames → frames ≡ (capture read).frames
so_far_frames read state frames h = ap (λ (r : Reading). r.frames) h

capture_told : (read : List ℕ) (stage : Stage) → (capture read).fault ≡ None → (capture read).state.stage ≡ stage → opening_in read (opening_at stage)
unfolding capture
capture_told read stage none is = told_at read stage (opening_of read) refl none is

-- the opening that the stage tells is that of the bytes
so_far_told : (read : List ℕ) (state : CaptureState) (frames : List FrameValue) → IsSoFar read [] state frames → opening_in read (opening_at state.stage)
so_far_told read state frames h = capture_told read state.stage (so_far_fault read state frames h) (sym (ap (λ (r : Reading). r.state.stage) h))

short_by : (read : List ℕ) (found : Option (Result Opening PcapFault)) → opening_of read ≡ found → (after_opening read found).fault ≡ None → opening_in read None → length read < 24
short_by read None e none h = opening_waits read e
short_by read (Some (Err fault)) e none h = absurd cc
short_by read (Some (Ok opening)) e none h = absurd (h opening e)

-- without a opening, and without a fault, there are fewer bytes than of one
capture_short : (read : List ℕ) → (capture read).fault ≡ None → opening_in read None → length read < 24
unfolding capture
capture_short read none h = short_by read (opening_of read) refl none h

-- a fault stands, whatever comes behind it
pub fault_stands : (read more : List ℕ) (fault : PcapFault) → (capture read).fault ≡ Some fault → capture (read ++ more) ≡ capture read
fault_stands read more fault h = capture-cut read more ∙ ap (λ v. continued_from v (capture read) more) h

-- a piece that stopped the reading of a capture
stopped_to : (read more : List ℕ) (frames : List FrameValue) (fault : PcapFault) → Stops (prepend [] (capture read)) frames fault → IsReadTo read more frames (Some fault)
stopped_to read more frames fault (inl found) =
    let is : (capture read).fault ≡ Some fault = sym (ap (λ (r : Reading). r.fault) found) in
    let same = fault_stands read more fault is in
    inr (inr (
      ap (λ (r : Reading). r.frames) found ∙ sym (ap (λ (r : Reading). r.frames) same),
      ap (λ (r : Reading). fault_after r.fault r.state) same ∙ ap (λ f. fault_after f (capture read).state) is,
      inr is,
    ))
stopped_to read more frames fault (inr memory) = inr (inl memory)

told_none : (read piece : List ℕ) (frames : List FrameValue) (fault : PcapFault) → (capture read).fault ≡ None → opening_in read None
    → length piece ≤ 24 - length read → Stops (prepend [] (capture (read ++ piece))) frames fault → IsOpeningTold (read ++ piece) None (Some fault)
told_none read piece frames fault none h room (inl found) = inl (λ opening e.
    let short = capture_short read none h in
    let alone = opening_alone (read ++ piece) opening e (omega (arith, length-append read piece)) in
    let is : (capture (read ++ piece)).fault ≡ Some fault = sym (ap (λ (r : Reading). r.fault) found) in
    cc)
told_none read piece frames fault none h room (inr memory) = inr (refl, ap Some memory.0)

-- the opening that was known, where a piece stopped the reading of a capture
stopped_told : (read piece : List ℕ) (opening : Option Opening) (frames : List FrameValue) (fault : PcapFault) → (capture read).fault ≡ None → opening_in read opening
    → (opening ≡ None → length piece ≤ 24 - length read) → Stops (prepend [] (capture (read ++ piece))) frames fault → IsOpeningTold (read ++ piece) opening (Some fault)
stopped_told read piece None frames fault none h room stops = told_none read piece frames fault none h (room refl) stops
stopped_told read piece (Some opening) frames fault none h room stops = inl (opening-append read piece (Ok opening) h)

-- the opening that is known is that of the bytes
told : (gone : List FrameValue) (bytes more : List ℕ) (progress : Progress) (at : IsUnderway gone bytes more progress) → opening_in at.read progress.opening
told gone bytes more progress at = subst (λ opening. opening_in at.read opening) (sym at.known) (so_far_told at.read progress.capture (gone ++ progress.piece) at.so_far)

-- a piece has no byte behind a opening that is not there
room : (gone : List FrameValue) (bytes piece more : List ℕ) (progress : Progress) (at : IsUnderway gone bytes more progress) → (0 < progress.missing → length piece ≤ progress.missing)
    → progress.opening ≡ None → length piece ≤ 24 - length at.read
room gone bytes piece more progress at within none =
    let short = capture_short at.read (so_far_fault at.read progress.capture (gone ++ progress.piece) at.so_far)
    (subst (λ opening. opening_in at.read opening) none (told gone bytes more progress at)) in
    let least : 0 < progress.missing = omega (arith, at.to_come) in
    omega (arith, at.to_come, within least)

-- at first nothing was read
pub begun : (bytes : List ℕ) (progress : Progress) → IsSoFar [] [] progress.capture progress.piece → progress.capture.stage ≡ Unopened
    → progress.opening ≡ None → progress.missing ≡ 24 → IsUnderway [] bytes bytes progress
begun bytes progress so_far opening none missing = record {
  read = [];
  front = refl;
  so_far = so_far;
  known = none ∙ sym (ap opening_at opening);
  to_come = missing;
}

prepend_twice : (fs gs : List FrameValue) (r : Reading) → prepend (fs ++ gs) r ≡ prepend fs (prepend gs r)
prepend_twice fs gs r = ap (λ (all : List FrameValue). record r { frames = all }) (append_assoc fs gs r.frames)

-- a piece that was read
pub fed : (gone : List FrameValue) (read piece : List ℕ) (state after : CaptureState) (old new : List FrameValue) → IsSoFar read [] state (gone ++ old)
    → record { frames = new; fault = None; state = after } ≡ prepend old (reading state piece) → IsSoFar (read ++ piece) [] after (gone ++ new)
fed gone read piece state after old new at now =
    ap (prepend gone) now ∙ sym (prepend_twice gone old (reading state piece)) ∙ sym (so_far read piece [] (gone ++ old) state at)

fed_stops : (gone : List FrameValue) (wanted : Reading) (frames : List FrameValue) (fault : PcapFault) → Stops wanted frames fault → Stops (prepend gone wanted) (gone ++ frames) fault
fed_stops gone wanted frames fault (inl found) = inl (ap (prepend gone) found)
fed_stops gone wanted frames fault (inr memory) = inr (memory.0, (memory.1.0, append_assoc gone frames memory.1.0 ∙ ap (λ fs. gone ++ fs) memory.1.1))

nothing : (bytes : List ℕ) → length bytes ≡ 0 → bytes ≡ []
nothing [] none = refl
nothing (byte ∷ bytes) none = absurd (omega (arith, none))

-- a piece without a byte changes no opening
pub still : (gone : List FrameValue) (bytes more piece : List ℕ) (before : Progress) (after : CaptureState) (frames : List FrameValue) → length piece ≡ 0
    → record { frames = frames; fault = None; state = after } ≡ prepend before.piece (reading before.capture piece)
    → IsUnderway gone bytes more before → opening_at after.stage ≡ before.opening
still gone bytes more piece before after frames none is at =
    let all : at.read ++ piece ≡ at.read = ap (λ p. at.read ++ p) (nothing piece none) ∙ append-nil at.read in
    let so_far : IsSoFar at.read [] after (gone ++ frames) =
    subst (λ read. IsSoFar read [] after (gone ++ frames)) all (fed gone at.read piece before.capture after before.piece frames at.so_far is) in
    let same : after ≡ before.capture = ap (λ (r : Reading). r.state) so_far ∙ sym (ap (λ (r : Reading). r.state) at.so_far) in
    ap (λ (s : CaptureState). opening_at s.stage) same ∙ sym at.known

-- and one that stopped the reading of a capture
fed_stopped : (gone : List FrameValue) (read piece : List ℕ) (state : CaptureState) (old new : List FrameValue) (fault : PcapFault) → IsSoFar read [] state (gone ++ old)
    → Stops (prepend old (reading state piece)) new fault → Stops (prepend [] (capture (read ++ piece))) (gone ++ new) fault
fed_stopped gone read piece state old new fault at stops =
    subst (λ wanted. Stops wanted (gone ++ new) fault) (sym (prepend_twice gone old (reading state piece)) ∙ sym (so_far read piece [] (gone ++ old) state at))
    (fed_stops gone (prepend old (reading state piece)) new fault stops)

-- a piece that stopped the reading
pub stopped : (gone : List FrameValue) (bytes piece more : List ℕ) (progress : Progress) (frames : List FrameValue) (fault : PcapFault) (at : IsUnderway gone bytes (piece ++ more) progress)
    → (0 < progress.missing → length piece ≤ progress.missing) → Stops (prepend progress.piece (reading progress.capture piece)) frames fault
    → IsReading bytes more progress.opening (gone ++ frames) (Some fault)
stopped gone bytes piece more progress frames fault at within stops =
    let all = fed_stopped gone at.read piece progress.capture progress.piece frames fault at.so_far stops in record {
      read = at.read ++ piece;
      front = at.front ∙ sym (append_assoc at.read piece more);
      told =
          stopped_told at.read piece progress.opening (gone ++ frames) fault (so_far_fault at.read progress.capture (gone ++ progress.piece) at.so_far)
          (told gone bytes (piece ++ more) progress at) (room gone bytes piece (piece ++ more) progress at within) all;
      ended = stopped_to (at.read ++ piece) more (gone ++ frames) fault all;
    }

-- a device that failed behind what was read
pub failed : (gone : List FrameValue) (bytes old more : List ℕ) (progress : Progress) (fault : PcapFault) → IsUnderway gone bytes old progress → more ≡ old → fault ≡ ReadFault
    → IsEnded gone bytes more progress (Some fault)
failed gone bytes old more progress fault at same is = record {
  read = at.read;
  front = at.front ∙ ap (λ left. at.read ++ left) (sym same);
  told = inl (told gone bytes old progress at);
  ended =
      inl (is, so_far_frames at.read progress.capture (gone ++ progress.piece) at.so_far, so_far_fault at.read progress.capture (gone ++ progress.piece) at.so_far);
}

-- a capture that ends whole
pub ended : (gone : List FrameValue) (bytes : List ℕ) (progress : Progress) (at : IsUnderway gone bytes [] progress) → fault_in at.read ≡ None → IsEnded gone bytes [] progress None
ended gone bytes progress at whole = record {
  read = at.read;
  front = at.front;
  told = inl (told gone bytes [] progress at);
  ended = (refl, so_far_frames at.read progress.capture (gone ++ progress.piece) at.so_far, whole);
}

-- and one that is cut short
pub cut : (gone : List FrameValue) (bytes : List ℕ) (progress : Progress) (fault : PcapFault) (at : IsUnderway gone bytes [] progress) → fault_in at.read ≡ Some fault
    → IsEnded gone bytes [] progress (Some fault)
cut gone bytes progress fault at found = record {
  read = at.read;
  front = at.front;
  told = inl (told gone bytes [] progress at);
  ended =
      inr (inr (
        so_far_frames at.read progress.capture (gone ++ progress.piece) at.so_far ∙ ap (λ all. (capture all).frames) (sym (append-nil at.read)),
        ap fault_in (append-nil at.read) ∙ found,
        inl refl,
      ));
}

cut_by : (read : List ℕ) (found : Option (Result Opening PcapFault)) → opening_of read ≡ found → (after_opening read found).fault ≡ None → opening_in read None
    → fault_after (after_opening read found).fault (after_opening read found).state ≡ Some Truncated
cut_by read None e none missing = refl
cut_by read (Some (Err fault)) e none missing = absurd cc
cut_by read (Some (Ok opening)) e none missing = absurd (missing opening e)

-- without a opening, and without a fault, the end of the bytes is one
cut_opening : (read : List ℕ) → (capture read).fault ≡ None → opening_in read None → fault_in read ≡ Some Truncated
unfolding capture
cut_opening read none missing = cut_by read (opening_of read) refl none missing

-- a capture that ends before its opening is there
pub cut_short : (bytes left : List ℕ) (progress : Progress) → left ≡ [] → progress.opening ≡ None → IsUnderway [] bytes left progress
    → (frames : List FrameValue) × IsReading bytes left None frames (Some Truncated)
cut_short bytes left progress over none at =
    let here : IsUnderway [] bytes [] progress = subst (λ more. IsUnderway [] bytes more progress) over at in
    let found = cut_opening here.read (so_far_fault here.read progress.capture progress.piece here.so_far)
    (subst (λ opening. opening_in here.read opening) none (told [] bytes [] progress here)) in (
      progress.piece,
      subst (λ more. IsReading bytes more None progress.piece (Some Truncated)) (sym over)
          (subst (λ (h : Option Opening). IsReading bytes [] h progress.piece (Some Truncated)) none (cut [] bytes progress Truncated here found)),
    )

-- a reading that ended before the opening was there
pub unheaded : (bytes more : List ℕ) (before after : Progress) (fault : PcapFault) → before.opening ≡ None → after.opening ≡ before.opening
    → IsEnded [] bytes more after (Some fault) → (frames : List FrameValue) × IsReading bytes more None frames (Some fault)
unheaded bytes more before after fault none same ended =
    (after.piece, subst (λ (h : Option Opening). IsReading bytes more h after.piece (Some fault)) (same ∙ none) ended)

kept_by : (opening : Opening) (bytes : List ℕ) (stage : Stage) → opening_at stage ≡ Some opening → (read_on stage bytes).fault ≡ None → opening_at (read_on stage bytes).state.stage ≡ opening_at stage
kept_by opening bytes Unopened known none = absurd cc
kept_by opening bytes (Records heading) known none = ap (λ s. opening_at (classic_stage s)) (records_stage heading bytes none)
kept_by opening bytes (Sections section) known none = ap (λ b. opening_at (newer_stage b (newer.blocks section bytes).state.section)) (blocks_whole section bytes none)
kept_by opening bytes Broken known none = absurd cc

-- a capture whose opening is known has it from then on
pub stays_opened : (opening : Opening) (state after : CaptureState) (piece : List ℕ) (old new : List FrameValue) → opening_at state.stage ≡ Some opening
    → record { frames = new; fault = None; state = after } ≡ prepend old (reading state piece) → opening_at after.stage ≡ Some opening
stays_opened opening state after piece old new known is =
    let none : (reading state piece).fault ≡ None = sym (ap (λ (r : Reading). r.fault) is) in
    ap (λ (r : Reading). opening_at r.state.stage) is ∙ kept_by opening (state.rest ++ piece) state.stage known none ∙ known

-- What was read, its frames, and those that memory was not there for.
pub record IsFrontRead (bytes more : List ℕ) (opening : Opening) (frames : List FrameValue) : Type 0 where
  pub read : List ℕ
  pub others : List FrameValue
  pub front : bytes ≡ read ++ more
  pub headed : opening_of read ≡ Some (Ok opening)
  pub parted : (capture read).frames ≡ frames ++ others

told_opening : (read : List ℕ) (opening : Opening) (fault : Option PcapFault) → IsOpeningTold read (Some opening) fault → opening_of read ≡ Some (Ok opening)
told_opening read opening fault (inl told) = told
told_opening read opening fault (inr none) = absurd cc

rest_frames : (read more : List ℕ) (fault : PcapFault) → (more ≡ []) ⊎ ((capture read).fault ≡ Some fault) → (capture (read ++ more)).frames ≡ (capture read).frames
rest_frames read more fault (inl nothing) = ap (λ all. (capture all).frames) (ap (λ m. read ++ m) nothing ∙ append-nil read)
rest_frames read more fault (inr stands) = ap (λ (r : Reading). r.frames) (fault_stands read more fault stands)

frames_read : (read more : List ℕ) (frames : List FrameValue) (fault : Option PcapFault) → IsReadTo read more frames fault → (others : List FrameValue) × ((capture read).frames ≡ frames ++ others)
frames_read read more frames None ended = ([], sym ended.1 ∙ sym (append-nil frames))
frames_read read more frames (Some fault) (inl unread) = ([], sym unread.1 ∙ sym (append-nil frames))
frames_read read more frames (Some fault) (inr (inl memory)) = (memory.1.0, sym memory.1.1)
frames_read read more frames (Some fault) (inr (inr stands)) = ([], sym (stands.0 ∙ rest_frames read more fault stands.2) ∙ sym (append-nil frames))

pub front_ended : (bytes more : List ℕ) (opening : Opening) (frames : List FrameValue) (fault : Option PcapFault) → IsReading bytes more (Some opening) frames fault
    → IsFrontRead bytes more opening frames
front_ended bytes more opening frames fault reading =
    let parts = frames_read reading.read more frames fault reading.ended in record {
      read = reading.read;
      others = parts.0;
      front = reading.front;
      headed = told_opening reading.read opening fault reading.told;
      parted = parts.1;
    }

pub front_underway : (gone : List FrameValue) (bytes more : List ℕ) (progress : Progress) (opening : Opening) → progress.opening ≡ Some opening → IsUnderway gone bytes more progress
    → IsFrontRead bytes more opening (gone ++ progress.piece)
front_underway gone bytes more progress opening is at = record {
  read = at.read;
  others = [];
  front = at.front;
  headed = subst (λ (h : Option Opening). opening_in at.read h) is (told gone bytes more progress at);
  parted = sym (so_far_frames at.read progress.capture (gone ++ progress.piece) at.so_far) ∙ sym (append-nil (gone ++ progress.piece));
}

-- where no fault was found so far, all frames that were read are there
pub whole_underway : (gone : List FrameValue) (bytes more : List ℕ) (progress : Progress) (opening : Opening) → progress.opening ≡ Some opening → IsUnderway gone bytes more progress
    → (read : List ℕ) × (bytes ≡ read ++ more) × (opening_of read ≡ Some (Ok opening)) × ((capture read).frames ≡ gone ++ progress.piece)
whole_underway gone bytes more progress opening is at =
    (at.read, at.front, subst (λ (h : Option Opening). opening_in at.read h) is (told gone bytes more progress at), sym (so_far_frames at.read progress.capture (gone ++ progress.piece) at.so_far))

-- the same, whatever a call that reads a piece came to
pub front_read : (gone : List FrameValue) (bytes more : List ℕ) (progress : Progress) (opening : Opening) (result : Result Bool PcapFault) → progress.opening ≡ Some opening
    → IsReadOn gone bytes more progress result → IsFrontRead bytes more opening (gone ++ progress.piece)
front_read gone bytes more progress opening (Ok true) is at = front_underway gone bytes more progress opening is at
front_read gone bytes more progress opening (Ok false) is at =
    front_ended bytes more opening (gone ++ progress.piece) None (subst (λ (h : Option Opening). IsReading bytes more h (gone ++ progress.piece) None) is at)
front_read gone bytes more progress opening (Err fault) is at =
    front_ended bytes more opening (gone ++ progress.piece) (Some fault) (subst (λ (h : Option Opening). IsReading bytes more h (gone ++ progress.piece) (Some fault)) is at)

whole_read_to : (read more : List ℕ) (frames : List FrameValue) (fault : Option PcapFault) → ¬ (fault ≡ Some pcaps.NoMemory) → IsReadTo read more frames fault → (capture read).frames ≡ frames
whole_read_to read more frames None well ended = sym ended.1
whole_read_to read more frames (Some fault) well (inl failed) = sym failed.1
whole_read_to read more frames (Some fault) well (inr (inl starved)) = absurd (well (ap Some starved.0))
whole_read_to read more frames (Some fault) well (inr (inr stands)) = sym (stands.0 ∙ rest_frames read more fault stands.2)

whole_ended : (bytes more : List ℕ) (opening : Opening) (frames : List FrameValue) (fault : Option PcapFault) → ¬ (fault ≡ Some pcaps.NoMemory) → IsReading bytes more (Some opening) frames fault
    → (read : List ℕ) × (bytes ≡ read ++ more) × (opening_of read ≡ Some (Ok opening)) × ((capture read).frames ≡ frames)
whole_ended bytes more opening frames fault well reading =
    (reading.read, reading.front, told_opening reading.read opening fault reading.told, whole_read_to reading.read more frames fault well reading.ended)

some_fault : (fault : PcapFault) → is_starved fault ≡ false → ¬ (Some fault ≡ Some pcaps.NoMemory)
some_fault fault well same =
    let is : fault ≡ pcaps.NoMemory = cc in
    let no : true ≡ false = sym (ap is_starved is) ∙ well in
    absurd cc

-- where memory did not run out, all frames that were read are there, whatever reading came to
pub whole_read : (gone : List FrameValue) (bytes more : List ℕ) (progress : Progress) (opening : Opening) (result : Result Bool PcapFault) → progress.opening ≡ Some opening → is_starving result ≡ false
    → IsReadOn gone bytes more progress result
    → (read : List ℕ) × (bytes ≡ read ++ more) × (opening_of read ≡ Some (Ok opening)) × ((capture read).frames ≡ gone ++ progress.piece)
whole_read gone bytes more progress opening (Ok true) is well at = whole_underway gone bytes more progress opening is at
whole_read gone bytes more progress opening (Ok false) is well at =
    whole_ended bytes more opening (gone ++ progress.piece) None (λ e. cc) (subst (λ (h : Option Opening). IsReading bytes more h (gone ++ progress.piece) None) is at)
whole_read gone bytes more progress opening (Err fault) is well at =
    whole_ended bytes more opening (gone ++ progress.piece) (Some fault) (some_fault fault well) (subst (λ (h : Option Opening). IsReading bytes more h (gone ++ progress.piece) (Some fault)) is at)
