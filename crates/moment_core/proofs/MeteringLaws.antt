-- How the parts of a metering step compute, over any rules.
use Rattle.std.proofs.Common.{◌≡◌, ℕ, ◌+◌, ◌-◌, ◌*◌, ◌/◌, ◌≤◌, zero, suc, refl, ◌∙◌, ap, arith}
use Rattle.std.proofs.lemmas.Bool.Decides.{nat_tests}
use Rattle.moment_core.specs.Tokens.{Content, each_nanosecond, given, tokens_at, with_tokens}
use Rattle.moment_core.specs.Fillings.{filled_over, filling_of}
use Rattle.moment_core.specs.Metering.{Offer, Rules, State, after, colour_of, filled, levels_at, seen, used}
use Rattle.moment_core.specs.declared.colour.Colour.{Colour}
use Rattle.moment_core.specs.declared.filling.Filling.{Filling}
use Rattle.moment_core.proofs.TokenLaws.{begun_token-since, each_nanosecond-with_tokens, given-since}

-- a meter never goes back
pub newest_le-used : (newest moment : ℕ) → newest ≤ used newest moment
unfolding used
newest_le-used newest moment = grind (arith, nat_tests)

pub moment_le-used : (newest moment : ℕ) → moment ≤ used newest moment
unfolding used
moment_le-used newest moment = grind (arith, nat_tests)

-- a bucket that gets the tokens of a rate up to a moment, in closed form
pub filled_to : (size rate origin newest moment level : ℕ) → newest ≤ moment
    → each_nanosecond (λ t l. with_tokens size (tokens_at rate origin t) l) newest (moment - newest) level
    ≡ with_tokens size (given rate origin moment - given rate origin newest) level
filled_to size rate origin newest moment level h =
    let there : newest + (moment - newest) ≡ moment = omega arith in
    each_nanosecond-with_tokens size rate origin newest (moment - newest) level
    ∙ ap (λ t. with_tokens size (given rate origin t - given rate origin newest) level) there

-- a part of the levels that changes on its own can be followed on its own
pub each_nanosecond-part : {L A : Type 0} (part : L → A) (step : ℕ → L → L) (f : ℕ → A → A) → ((t : ℕ) (l : L) → part (step t l) ≡ f t (part l))
    → (from count : ℕ) (l : L) → part (each_nanosecond step from count l) ≡ each_nanosecond f from count (part l)
unfolding each_nanosecond
each_nanosecond-part part step f same from zero l = refl
each_nanosecond-part part step f same from (suc count) l =
    same (from + suc count) (each_nanosecond step from count l) ∙ ap (f (from + suc count)) (each_nanosecond-part part step f same from count l)

-- so a bucket among the levels, filled at a rate, has a closed form
pub bucket_filled_to : {L : Type 0} (part : L → ℕ) (step : ℕ → L → L) (size rate origin : ℕ)
    → ((t : ℕ) (l : L) → part (step t l) ≡ with_tokens size (tokens_at rate origin t) (part l))
    → (newest moment : ℕ) (l : L) → newest ≤ moment
    → part (each_nanosecond step newest (moment - newest) l) ≡ with_tokens size (given rate origin moment - given rate origin newest) (part l)
bucket_filled_to part step size rate origin same newest moment l h =
    each_nanosecond-part part step (λ t n. with_tokens size (tokens_at rate origin t) n) same newest (moment - newest) l
    ∙ filled_to size rate origin newest moment (part l) h

-- before a packet a bucket among the levels, of some size, has the tokens of a rate
abbrev pub IsFilledAt : {P L : Type 0} → Rules P L → (L → ℕ) → (P → ℕ) → (P → ℕ) → Type 0
IsFilledAt {P} {L} rules level size rate = (m : State P L) (moment : ℕ)
    → level (levels_at rules m (used m.newest moment))
    ≡ with_tokens (size m.parameters) (given (rate m.parameters) m.origin (used m.newest moment) - given (rate m.parameters) m.origin m.newest) (level m.levels)

-- where it is given those of each nanosecond
pub filled_at : {P L : Type 0} (rules : Rules P L) (level : L → ℕ) (size rate : P → ℕ)
    → ((p : P) (origin t : ℕ) (l : L) → level (rules.gain p origin t l) ≡ with_tokens (size p) (tokens_at (rate p) origin t) (level l))
    → IsFilledAt rules level size rate
unfolding levels_at
filled_at rules level size rate each m moment =
    let p = m.parameters in
    bucket_filled_to level (rules.gain p m.origin) (size p) (rate p) m.origin (each p m.origin) m.newest (used m.newest moment) m.levels (newest_le-used m.newest moment)

-- What a meter does that has its tokens, gives a packet the colour of the rules, and takes that colour's bytes out: just
-- what the token meter does.
pub admitted-colour : {P L : Type 0} (rules : Rules P L) (m before : State P L) (o : Offer) (left : Colour)
    → before ≡ filled rules m o.moment → left ≡ rules.coloured before.levels o.size (seen before.mode o.came)
    → left ≡ colour_of rules m o
unfolding colour_of filled
admitted-colour rules m before o left fill colour = colour ∙ ap (λ b. rules.coloured b.levels o.size (seen b.mode o.came)) fill

pub admitted-after : {P L : Type 0} (rules : Rules P L) (m before : State P L) (o : Offer) (left : Colour) (now : L)
    → before ≡ filled rules m o.moment → left ≡ rules.coloured before.levels o.size (seen before.mode o.came)
    → now ≡ rules.without before.levels o.size left
    → record before { levels = now } ≡ after rules m o
unfolding after filled
admitted-after rules m before o left now fill colour taken =
    rw (taken, admitted-colour rules m before o left fill colour, fill) refl

-- The tokens that a bucket takes in over the gap to the moment that is metered at, with the part of a token that was
-- begun, are those that the token law gives up to it.
pub drawn : {P L : Type 0} (m : State P L) (rate size level arrival gap : ℕ) (f : Filling) → m.origin ≤ m.newest
    → f ≡ filling_of m rate size level → gap ≡ used m.newest arrival - m.newest
    → (f.rate * gap + f.begun) / 8000000000 ≡ given rate m.origin (used m.newest arrival) - given rate m.origin m.newest
drawn m rate size level arrival gap f begun same span =
    rw (same, span) (given-since rate m.origin m.newest (used m.newest arrival) begun (newest_le-used m.newest arrival))

-- so it is then as in the meter that is filled up to that moment
pub fills : {P L : Type 0} (rules : Rules P L) (level : L → ℕ) (size rate : P → ℕ) → IsFilledAt rules level size rate
    → (m : State P L) (arrival gap : ℕ) (f next : Filling) → m.origin ≤ m.newest
    → f ≡ filling_of m (rate m.parameters) (size m.parameters) (level m.levels) → gap ≡ used m.newest arrival - m.newest → next ≡ filled_over f gap
    → next ≡ filling_of (filled rules m arrival) (rate m.parameters) (size m.parameters) (level (levels_at rules m (used m.newest arrival)))
unfolding filled
fills rules level size rate fill m arrival gap f next begun same span is_filled =
    let r = rate m.parameters in
    let later = newest_le-used m.newest arrival in
    let tokens = given-since r m.origin m.newest (used m.newest arrival) begun later in
    let part = begun_token-since r m.origin m.newest (used m.newest arrival) begun later in
    rw (is_filled, same, span, fill m arrival, tokens, part) refl

-- and where bytes are taken out of it, it has that level
pub drained : {P L : Type 0} (m : State P L) (rate size level : ℕ) (f : Filling) (bucket : Content) → f ≡ filling_of m rate size level
    → bucket.size ≡ f.bucket.size → record f { bucket = bucket } ≡ filling_of m rate size bucket.level
drained m rate size level f bucket same kept =
    let sized : bucket.size ≡ size = kept ∙ ap (λ (g : Filling). g.bucket.size) same in
    rw (same, ← sized) refl
