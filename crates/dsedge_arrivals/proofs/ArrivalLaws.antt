-- The lines of frames, and of more frames behind them.
use Rattle.std.proofs.Common.{◌≡◌, ℕ, Bool, true, false, MatchBool, List, [], ◌∷◌, ◌++◌, Option, None, Some, Err, max, refl, sym, ap, subst, ◌∙◌, append_assoc, append-nil, inl, inr}
use Rattle.pcap_capture.specs.Frames.{FrameValue}
use Rattle.pcap_capture.specs.Fronts.{IsFrontOf}
use Rattle.capture_reader.specs.Formats.{capture}
use Rattle.pcap_capture.specs.declared.fault.PcapFault.{PcapFault}
use Rattle.capture_reader.specs.declared.opening.Opening.{Opening}
use Rattle.pcap_capture.proofs.FrontLaws.{IsFrontOf-first, IsFrontOf-none, IsFrontOf-second}
use Rattle.capture_reader.specs.Readings.{IsEnded, IsOpeningKept, IsReading, IsUnderway}
use Rattle.capture_reader.specs.declared.reading.Progress.{Progress}
use Rattle.capture_reader.proofs.ReadingLaws.{IsFrontRead, front_ended}
use Rattle.dsedge_arrivals.specs.Arrivals.{Filter, line_at, lines_behind, lines_from, lines_in, newest_in, sight_in}
use Rattle.dsedge_arrivals.specs.Tellings.{IsBreak, IsToldAs, IsToldInPart, IsToldTo, is_broken_off}

pub newest_in-append : (newest : ℕ) (xs ys : List FrameValue) → newest_in newest (xs ++ ys) ≡ newest_in (newest_in newest xs) ys
unfolding newest_in
newest_in-append newest [] ys = refl
newest_in-append newest (f ∷ xs) ys = newest_in-append (max newest f.moment) xs ys

pub lines_from-append : (filter : Filter) (newest : ℕ) (xs ys : List FrameValue)
    → lines_from filter newest (xs ++ ys) ≡ lines_from filter newest xs ++ lines_from filter (newest_in newest xs) ys
unfolding lines_from newest_in
lines_from-append filter newest [] ys = refl
lines_from-append filter newest (f ∷ xs) ys =
    let first = line_at filter (sight_in filter.port f) (max newest f.moment) in
    ap (λ t. first ++ t) (lines_from-append filter (max newest f.moment) xs ys)
    ∙ sym (append_assoc first (lines_from filter (max newest f.moment) xs) (lines_from filter (newest_in (max newest f.moment) xs) ys))

-- one frame more
pub newest_in-one : (newest : ℕ) (xs : List FrameValue) (f : FrameValue) → newest_in newest (xs ++ f ∷ []) ≡ max (newest_in newest xs) f.moment
unfolding newest_in
newest_in-one newest xs f = newest_in-append newest xs (f ∷ [])

pub lines_from-one : (filter : Filter) (newest : ℕ) (xs : List FrameValue) (f : FrameValue)
    → lines_from filter newest (xs ++ f ∷ [])
    ≡ lines_from filter newest xs ++ line_at filter (sight_in filter.port f) (max (newest_in newest xs) f.moment)
unfolding lines_from
lines_from-one filter newest xs f =
    lines_from-append filter newest xs (f ∷ [])
    ∙ ap (λ t. lines_from filter newest xs ++ t) (append-nil (line_at filter (sight_in filter.port f) (max (newest_in newest xs) f.moment)))

-- ---- what was read of a capture, and told

-- The frames that were taken out are told behind what stood.
pub record IsToldSince (filter : Filter) (opening : Opening) (bytes more : List ℕ) (progress : Progress) (newest : ℕ)
    (before after : List ℕ) : Type 0 where
  pub gone : List FrameValue
  pub underway : IsUnderway gone bytes more progress
  pub headed : progress.opening ≡ Some opening
  pub newest_is : newest ≡ newest_in 0 gone
  pub written : after ≡ before ++ lines_from filter 0 gone

-- the opening stays
pub headed_on : (gone : List FrameValue) (bytes more : List ℕ) (opening : Opening) (before after : Progress) → IsUnderway gone bytes more before
    → before.opening ≡ Some opening → IsOpeningKept before after → after.opening ≡ Some opening
headed_on gone bytes more opening before after at is kept =
    kept opening (sym at.known ∙ is) is

-- the lines of a piece behind those of the frames before it
pub lines_behind_gone : (filter : Filter) (newest : ℕ) (gone piece : List FrameValue) → newest ≡ newest_in 0 gone
    → lines_from filter 0 (gone ++ piece) ≡ lines_from filter 0 gone ++ lines_from filter newest piece
lines_behind_gone filter newest gone piece is =
    lines_from-append filter 0 gone piece ∙ ap (λ n. lines_from filter 0 gone ++ lines_from filter n piece) (sym is)

pub told_more : (filter : Filter) (newest : ℕ) (gone piece : List FrameValue) (before middle after : List ℕ) → newest ≡ newest_in 0 gone
    → middle ≡ before ++ lines_from filter 0 gone → after ≡ middle ++ lines_from filter newest piece
    → after ≡ before ++ lines_from filter 0 (gone ++ piece)
told_more filter newest gone piece before middle after is so far =
    far ∙ ap (λ t. t ++ lines_from filter newest piece) so
    ∙ append_assoc before (lines_from filter 0 gone) (lines_from filter newest piece)
    ∙ ap (λ t. before ++ t) (sym (lines_behind_gone filter newest gone piece is))

front_more : (filter : Filter) (newest : ℕ) (gone piece : List FrameValue) (before middle after : List ℕ) → newest ≡ newest_in 0 gone
    → middle ≡ before ++ lines_from filter 0 gone → IsFrontOf middle (lines_from filter newest piece) after
    → IsFrontOf before (lines_from filter 0 (gone ++ piece)) after
front_more filter newest gone piece before middle after is so front =
    subst (λ (t : List ℕ). IsFrontOf before t after) (sym (lines_behind_gone filter newest gone piece is))
    (IsFrontOf-second before middle after (lines_from filter 0 gone) (lines_from filter newest piece) so front)

-- a front of the lines of frames that were read
in_part : (filter : Filter) (opening : Opening) (bytes more : List ℕ) (frames : List FrameValue) (before after : List ℕ) → IsFrontRead bytes more opening frames
    → IsFrontOf before (lines_from filter 0 frames) after → IsToldInPart filter bytes more before after
in_part filter opening bytes more frames before after at front =
    let lines = lines_from filter 0 frames in
    let rest = lines_from filter (newest_in 0 frames) at.others in
    let all : lines_in filter at.read ≡ lines ++ rest =
    ap (λ found. lines_behind filter found (capture at.read).frames) at.headed
    ∙ ap (λ fs. lines_from filter 0 fs) at.parted ∙ lines_from-append filter 0 frames at.others in record {
      read = at.read;
      front = at.front;
      written = subst (λ (t : List ℕ). IsFrontOf before t after) (sym all) (IsFrontOf-first before after lines rest front);
    }

either : (b : Bool) (A B : Type 0) → A → B → MatchBool b A B
either true A B a b = a
either false A B a b = b

-- a reading that ended before its opening was known
pub unheaded_told : (filter : Filter) (bytes more before : List ℕ) (frames : List FrameValue) (fault : PcapFault) → IsReading bytes more None frames (Some fault)
    → IsToldAs filter bytes more before before (Err fault)
unheaded_told filter bytes more before frames fault reading =
    either (is_broken_off (Err fault)) (IsToldInPart filter bytes more before before) (IsToldTo filter bytes more before before (Some fault))
    (record { read = reading.read; front = reading.front; written = IsFrontOf-none before (lines_in filter reading.read) })
    (record { opening = None; frames = frames; reading = reading; written = sym (append-nil before) })

broken : (fault : PcapFault) → IsBreak fault → is_broken_off (Err fault) ≡ true
broken fault (inl is) = ap (λ f. is_broken_off (Err f)) is
broken fault (inr is) = ap (λ f. is_broken_off (Err f)) is

-- a telling that was broken off
pub broken_told : (filter : Filter) (opening : Opening) (bytes more : List ℕ) (newest : ℕ) (gone piece : List FrameValue) (before middle after : List ℕ) (fault : PcapFault)
    → newest ≡ newest_in 0 gone → middle ≡ before ++ lines_from filter 0 gone → IsFrontRead bytes more opening (gone ++ piece)
    → IsFrontOf middle (lines_from filter newest piece) after → IsBreak fault → IsToldAs filter bytes more before after (Err fault)
broken_told filter opening bytes more newest gone piece before middle after fault is so at front breaks =
    subst (λ b. MatchBool b (IsToldInPart filter bytes more before after) (IsToldTo filter bytes more before after (Some fault))) (sym (broken fault breaks))
    (in_part filter opening bytes more (gone ++ piece) before after at (front_more filter newest gone piece before middle after is so front))

given_all : (before text after : List ℕ) → after ≡ before ++ text → IsFrontOf before text after
given_all before text after is = (text, [], sym (append-nil text), is)

-- a telling whose reading ended by a fault
pub ended_told : (filter : Filter) (opening : Opening) (bytes more : List ℕ) (frames : List FrameValue) (before after : List ℕ) (fault : PcapFault)
    → IsReading bytes more (Some opening) frames (Some fault) → after ≡ before ++ lines_from filter 0 frames
    → IsToldAs filter bytes more before after (Err fault)
ended_told filter opening bytes more frames before after fault reading written =
    either (is_broken_off (Err fault)) (IsToldInPart filter bytes more before after) (IsToldTo filter bytes more before after (Some fault))
    (in_part filter opening bytes more frames before after (front_ended bytes more opening frames (Some fault) reading)
    (given_all before (lines_from filter 0 frames) after written))
    (record { opening = Some opening; frames = frames; reading = reading; written = written })

-- what was read, where the opening is known
pub read_headed : (gone : List FrameValue) (bytes more : List ℕ) (progress : Progress) (opening : Opening) (fault : Option PcapFault) → progress.opening ≡ Some opening
    → IsEnded gone bytes more progress fault → IsReading bytes more (Some opening) (gone ++ progress.piece) fault
read_headed gone bytes more progress opening fault is ended =
    subst (λ (h : Option Opening). IsReading bytes more h (gone ++ progress.piece) fault) is ended
