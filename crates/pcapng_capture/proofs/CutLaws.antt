-- However a capture is cut, its blocks and its fault are the same.
use Rattle.std.proofs.Common.{◌≡◌, ℕ, ◌≤◌, zero, suc, Bool, true, false, List, [], ◌∷◌, ◌++◌, length, Option, None, Some, append_assoc, refl, sym, ◌∙◌, ap, arith}
use Rattle.pcap_capture.specs.Frames.{FrameValue}
use Rattle.pcapng_capture.specs.Grammar.{CaptureState, Next, Partial, Bad, Whole, Reading, blocks, capture, continued, continued_from, ending, fault_after, fault_in, from_next, next_of, prepend, read_on, reading, waiting, no_section}
use Rattle.pcapng_capture.specs.Packets.{SectionValue, Step}
use Rattle.pcapng_capture.specs.Readings.{IsSoFar}
use Rattle.pcap_capture.specs.declared.fault.PcapFault.{PcapFault}
use Rattle.pcapng_capture.proofs.GrammarLaws.{after_shorter, bad-append, blocks-next, blocks_by, next_short, whole-append}

pub prepend_twice : (fs gs : List FrameValue) (r : Reading) → prepend (fs ++ gs) r ≡ prepend fs (prepend gs r)
prepend_twice fs gs r = ap (λ (all : List FrameValue). record r { blocks = all }) (append_assoc fs gs r.blocks)

continued_prepend : (fault : Option PcapFault) (fs : List FrameValue) (r : Reading) (more : List ℕ) → continued_from fault (prepend fs r) more ≡ prepend fs (continued_from fault r more)
continued_prepend None fs r more = prepend_twice fs r.blocks (reading r.state more)
continued_prepend (Some fault) fs r more = refl

-- by what stands at the front, once it is known behind the block there
cut_next : (section : SectionValue) (xs ys : List ℕ) (next : Next) → next_of section xs ≡ next
    → ((step : Step) (after : List ℕ) → next ≡ Whole step after → blocks step.section (after ++ ys) ≡ continued (blocks step.section after) ys)
    → blocks section (xs ++ ys) ≡ continued (from_next section xs blocks next) ys
cut_next section xs ys Partial is known = refl
cut_next section xs ys (Bad fault) is known = blocks_by section (xs ++ ys) (Bad fault) (bad-append section xs ys fault is)
cut_next section xs ys (Whole step after) is known =
    blocks_by section (xs ++ ys) (Whole step (after ++ ys)) (whole-append section xs ys step after is)
    ∙ ap (prepend (step.block ∷ [])) (known step after refl)
    ∙ sym (continued_prepend (blocks step.section after).fault (step.block ∷ []) (blocks step.section after) ys)

cut_within : (n : ℕ) (section : SectionValue) (xs ys : List ℕ) → length xs ≤ n → blocks section (xs ++ ys) ≡ continued (blocks section xs) ys
cut_within zero section xs ys h =
    cut_next section xs ys (next_of section xs) refl (λ step after is.
    let shorter = after_shorter section xs step after is in
    absurd (omega arith))
    ∙ ap (λ r. continued r ys) (sym (blocks-next section xs))
cut_within (suc n) section xs ys h =
    cut_next section xs ys (next_of section xs) refl (λ step after is.
    let shorter = after_shorter section xs step after is in
    cut_within n step.section after ys (omega arith))
    ∙ ap (λ r. continued r ys) (sym (blocks-next section xs))

-- blocks, cut anywhere
pub blocks-cut : (section : SectionValue) (xs ys : List ℕ) → blocks section (xs ++ ys) ≡ continued (blocks section xs) ys
blocks-cut section xs ys = cut_within (length xs) section xs ys (omega arith)

-- the same in a capture in which a fault was found
cut_on : (is_broken : Bool) (section : SectionValue) (bytes more : List ℕ) → read_on is_broken section (bytes ++ more) ≡ continued (read_on is_broken section bytes) more
cut_on true section bytes more = refl
cut_on false section bytes more = blocks-cut section bytes more

pub reading_cut : (state : CaptureState) (front back : List ℕ) → reading state (front ++ back) ≡ continued (reading state front) back
reading_cut state front back =
    ap (read_on state.is_broken state.section) (sym (append_assoc state.rest front back)) ∙ cut_on state.is_broken state.section (state.rest ++ front) back

-- what a piece makes of the bytes so far
pub so_far : (bytes piece : List ℕ) (before blocks : List FrameValue) (state : CaptureState) → IsSoFar bytes before state blocks
    → prepend before (capture (bytes ++ piece)) ≡ prepend blocks (reading state piece)
so_far bytes piece before blocks state h =
    let fault : (capture bytes).fault ≡ None = sym (ap (λ (r : Reading). r.fault) h) in
    let was : (capture bytes).state ≡ state = sym (ap (λ (r : Reading). r.state) h) in
    let all : before ++ (capture bytes).blocks ≡ blocks = sym (ap (λ (r : Reading). r.blocks) h) in
    ap (prepend before) (blocks-cut no_section bytes piece ∙ ap (λ v. continued_from v (capture bytes) piece) fault)
    ∙ sym (prepend_twice before (capture bytes).blocks (reading (capture bytes).state piece))
    ∙ ap (λ (all : List FrameValue). prepend all (reading (capture bytes).state piece)) all ∙ ap (λ s. prepend blocks (reading s piece)) was

-- at first there is nothing
pub capture_empty : capture [] ≡ waiting no_section []
capture_empty = blocks_by no_section [] Partial (next_short no_section [] (omega arith))

-- where the bytes so far have no fault, it is their end that may have one
pub fault_so_far : (bytes : List ℕ) (before blocks : List FrameValue) (state : CaptureState) → IsSoFar bytes before state blocks → fault_in bytes ≡ ending state
fault_so_far bytes before blocks state h =
    let fault : (capture bytes).fault ≡ None = sym (ap (λ (r : Reading). r.fault) h) in
    let was : (capture bytes).state ≡ state = sym (ap (λ (r : Reading). r.state) h) in
    ap (λ f. fault_after f (capture bytes).state) fault ∙ ap ending was
