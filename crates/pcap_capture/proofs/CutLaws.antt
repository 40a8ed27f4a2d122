-- However a capture is cut, its frames and its fault are the same.
use Rattle.std.proofs.Common.{◌≡◌, ℕ, ◌≤◌, zero, suc, List, [], ◌∷◌, ◌++◌, length, drop, Option, None, Some, Result, Ok, Err, append_assoc, refl, sym, ◌∙◌, ap, arith}
use Rattle.std.proofs.lemmas.List.{drop-append-le}
use Rattle.pcap_capture.specs.Frames.{FrameValue}
use Rattle.pcap_capture.specs.Grammar.{CaptureState, IsSoFar, Next, Partial, TooLong, Whole, Reading, after_heading, capture, continued, continued_from, ending, fault_after, fault_in, from_next, heading_of, next_of, prepend, read_on, reading, records, waiting}
use Rattle.pcap_capture.specs.declared.fault.PcapFault.{PcapFault}
use Rattle.pcap_capture.specs.declared.heading.Heading.{Heading}
use Rattle.pcap_capture.specs.declared.stage.Stage.{Stage}
use Rattle.pcap_capture.specs.declared.stage.Stage.TheVariants.{Opening, Records, Broken}
use Rattle.pcap_capture.proofs.GrammarLaws.{after_shorter, records-next, too_long-append, whole-append}
use Rattle.pcap_capture.proofs.HeadingLaws.{heading-append, heading_read}

prepend_twice : (fs gs : List FrameValue) (r : Reading) → prepend (fs ++ gs) r ≡ prepend fs (prepend gs r)
prepend_twice fs gs r = ap (λ (all : List FrameValue). record r { frames = all }) (append_assoc fs gs r.frames)

continued_prepend : (fault : Option PcapFault) (fs : List FrameValue) (r : Reading) (more : List ℕ) → continued_from fault (prepend fs r) more ≡ prepend fs (continued_from fault r more)
continued_prepend None fs r more = prepend_twice fs r.frames (reading r.state more)
continued_prepend (Some fault) fs r more = refl

-- by what stands at the front, once it is known behind the frame there
cut_next : (heading : Heading) (xs ys : List ℕ) (next : Next) → next_of heading xs ≡ next
    → ((frame : FrameValue) (after : List ℕ) → next ≡ Whole frame after → records heading (after ++ ys) ≡ continued (records heading after) ys)
    → records heading (xs ++ ys) ≡ continued (from_next heading xs (records heading) next) ys
cut_next heading xs ys Partial is known = refl
cut_next heading xs ys (TooLong count) is known =
    records-next heading (xs ++ ys) ∙ ap (from_next heading (xs ++ ys) (records heading)) (too_long-append heading xs ys count is)
cut_next heading xs ys (Whole frame after) is known =
    records-next heading (xs ++ ys) ∙ ap (from_next heading (xs ++ ys) (records heading)) (whole-append heading xs ys frame after is)
    ∙ ap (prepend (frame ∷ [])) (known frame after refl) ∙ sym (continued_prepend (records heading after).fault (frame ∷ []) (records heading after) ys)

cut_within : (n : ℕ) (heading : Heading) (xs ys : List ℕ) → length xs ≤ n → records heading (xs ++ ys) ≡ continued (records heading xs) ys
cut_within zero heading xs ys h =
    cut_next heading xs ys (next_of heading xs) refl (λ frame after is.
    let shorter = after_shorter heading xs frame after is in
    absurd (omega arith))
    ∙ ap (λ r. continued r ys) (sym (records-next heading xs))
cut_within (suc n) heading xs ys h =
    cut_next heading xs ys (next_of heading xs) refl (λ frame after is.
    let shorter = after_shorter heading xs frame after is in
    cut_within n heading after ys (omega arith))
    ∙ ap (λ r. continued r ys) (sym (records-next heading xs))

-- records, cut anywhere
pub records-cut : (heading : Heading) (xs ys : List ℕ) → records heading (xs ++ ys) ≡ continued (records heading xs) ys
records-cut heading xs ys = cut_within (length xs) heading xs ys (omega arith)

cut_heading : (xs ys : List ℕ) (read : Option (Result Heading PcapFault)) → heading_of xs ≡ read → capture (xs ++ ys) ≡ continued (after_heading xs read) ys
unfolding capture
cut_heading xs ys None is = refl
cut_heading xs ys (Some (Err fault)) is = ap (after_heading (xs ++ ys)) (heading-append xs ys (Err fault) is)
cut_heading xs ys (Some (Ok heading)) is =
    ap (after_heading (xs ++ ys)) (heading-append xs ys (Ok heading) is)
    ∙ ap (records heading) (drop-append-le 24 xs ys (heading_read xs heading is)) ∙ records-cut heading (drop 24 xs) ys

-- a capture, cut anywhere
pub capture-cut : (xs ys : List ℕ) → capture (xs ++ ys) ≡ continued (capture xs) ys
unfolding capture
capture-cut xs ys = cut_heading xs ys (heading_of xs) refl

-- the same at any stage
cut_stage : (stage : Stage) (bytes more : List ℕ) → read_on stage (bytes ++ more) ≡ continued (read_on stage bytes) more
cut_stage Opening bytes more = capture-cut bytes more
cut_stage (Records heading) bytes more = records-cut heading bytes more
cut_stage Broken bytes more = refl

pub reading_cut : (state : CaptureState) (front back : List ℕ) → reading state (front ++ back) ≡ continued (reading state front) back
reading_cut state front back =
    ap (read_on state.stage) (sym (append_assoc state.rest front back)) ∙ cut_stage state.stage (state.rest ++ front) back

-- what a piece makes of the bytes so far
pub so_far : (bytes piece : List ℕ) (before frames : List FrameValue) (state : CaptureState) → IsSoFar bytes before state frames
    → prepend before (capture (bytes ++ piece)) ≡ prepend frames (reading state piece)
so_far bytes piece before frames state h =
    let fault : (capture bytes).fault ≡ None = sym (ap (λ (r : Reading). r.fault) h) in
    let was : (capture bytes).state ≡ state = sym (ap (λ (r : Reading). r.state) h) in
    let all : before ++ (capture bytes).frames ≡ frames = sym (ap (λ (r : Reading). r.frames) h) in
    ap (prepend before) (capture-cut bytes piece ∙ ap (λ v. continued_from v (capture bytes) piece) fault)
    ∙ sym (prepend_twice before (capture bytes).frames (reading (capture bytes).state piece))
    ∙ ap (λ (all : List FrameValue). prepend all (reading (capture bytes).state piece)) all ∙ ap (λ s. prepend frames (reading s piece)) was

-- at first there is nothing
pub capture_empty : capture [] ≡ waiting Opening []
unfolding capture heading_of
capture_empty = refl

-- where the bytes so far have no fault, it is their end that may have one
pub fault_so_far : (bytes : List ℕ) (before frames : List FrameValue) (state : CaptureState) → IsSoFar bytes before state frames → fault_in bytes ≡ ending state
fault_so_far bytes before frames state h =
    let fault : (capture bytes).fault ≡ None = sym (ap (λ (r : Reading). r.fault) h) in
    let was : (capture bytes).state ≡ state = sym (ap (λ (r : Reading). r.state) h) in
    ap (λ f. fault_after f (capture bytes).state) fault ∙ ap ending was
