-- A bucket cannot run short while what drains it keeps an envelope of its rate and its size.
use Rattle.std.proofs.Common.{◌≡◌, ℕ, ◌+◌, ◌-◌, ◌*◌, ◌/◌, ◌≤◌, ◌⊎◌, ◌↔◌, zero, suc, Bool, cond, List, [], ◌∷◌, map, sum_by, ap, refl, arith, inl, inr}
use Rattle.std.specs.List.{All, filter}
use Rattle.std.proofs.lemmas.Bool.{cases_lt}
use Rattle.std.proofs.lemmas.Bool.Decides.{nat_tests}
use Rattle.std.proofs.lemmas.List.Elements.{All-head, All-tail}
use Rattle.moment_core.specs.Conformance.{Keeps, KeepsUpTo, size_within}
use Rattle.moment_core.specs.Metering.{Departure, Offer, Rules, State, after, colour_of, departure, departures, how, levels_at, opening, used}
use Rattle.moment_core.specs.Tokens.{given, with_tokens}
use Rattle.moment_core.specs.declared.colour.Colour.{Colour}
use Rattle.moment_core.specs.declared.colour.Mode.TheVariants.{Aware}
use Rattle.moment_core.proofs.FillingLaws.{div-add, with_tokens_over}
use Rattle.moment_core.proofs.MeteringLaws.{IsFilledAt, newest_le-used}
use Rattle.moment_core.proofs.OutputLaws.{sum_where, weight}
use Rattle.moment_core.proofs.TokenLaws.{given-mono, product-since, with_tokens_fits, with_tokens_full}

-- ---- windows that end at a moment

-- what keeps a rate and a burst keeps them in the windows that end at each moment
pub Keeps-up_to : (rate burst : ℕ) (items : List (ℕ × ℕ)) → Keeps rate burst items ↔ ((end : ℕ) → KeepsUpTo end rate burst items)
Keeps-up_to rate burst items = (λ kept end start ordered. kept start end ordered, λ kept start end ordered. kept end start ordered)

-- ---- tokens

-- a window from the origin on is given at least the tokens of its length
pub given-window_least : (rate origin start end : ℕ) → origin ≤ start → start ≤ end
    → rate * (end - start) / 8000000000 + given rate origin start ≤ given rate origin end
unfolding given
given-window_least rate origin start end begun ordered =
    let both = div-add (rate * (start - origin)) (rate * (end - start)) in
    let whole = ap (λ n. n / 8000000000) (product-since rate origin start end begun ordered) in
    omega (arith, both, whole)

-- a bucket that is given tokens takes them all, or is full then
pub with_tokens-fills : (size count level : ℕ) → (level + count ≤ with_tokens size count level) ⊎ (size ≤ with_tokens size count level)
with_tokens-fills size count level =
    elim (cases_lt size (level + count)) [
      | inr fits ↦ inl (omega (arith, with_tokens_fits size count level fits))
      | inl more ↦
          elim (cases_lt size level) [
            | inl over ↦ inr (omega (arith, with_tokens_over size count level (omega arith)))
            | inr within ↦ inr (omega (arith, with_tokens_full size count level within (omega arith)))
          ]
    ]

-- it loses none of what it had
pub with_tokens-grows : (size count level : ℕ) → level ≤ with_tokens size count level
with_tokens-grows size count level =
    elim (cases_lt size level) [
      | inl over ↦ omega (arith, with_tokens_over size count level (omega arith))
      | inr within ↦
          elim (with_tokens-fills size count level) [
            | inl all ↦ omega (arith, all)
            | inr full ↦ omega (arith, full)
          ]
    ]

-- A bucket, or buckets that are looked at as one, has by a moment all the tokens given since an earlier one, or is full.
abbrev pub FillsUp : (ℕ → ℕ) → ℕ → ℕ → ℕ → ℕ → ℕ → Type 0
FillsUp given size newest level used now = (level + given used ≤ now + given newest) ⊎ (size ≤ now)

pub FillsUp-with_tokens : (rate origin size newest moment level : ℕ)
    → FillsUp (given rate origin) size newest level (used newest moment) (with_tokens size (given rate origin (used newest moment) - given rate origin newest) level)
FillsUp-with_tokens rate origin size newest moment level =
    let more = given-mono rate origin newest (used newest moment) (newest_le-used newest moment) in
    elim (with_tokens-fills size (given rate origin (used newest moment) - given rate origin newest) level) [
      | inl all ↦ inl (omega (arith, all, more))
      | inr full ↦ inr full
    ]

-- ---- what comes to a meter

-- the sized moments, by the moments metered at, of the packets that came with a colour that a test picks
abbrev pub input : (Colour → Bool) → List Departure → List (ℕ × ℕ)
input picked ds = map (λ d. (d.used, d.size)) (filter (λ d. picked d.came) ds)

-- the bytes that a window holds of them
abbrev pub brought : ℕ → ℕ → (Colour → Bool) → List Departure → ℕ
brought start end picked ds = sum_by (size_within start end) (input picked ds)

brought-cons : (start end : ℕ) (picked : Colour → Bool) (d : Departure) (ds : List Departure)
    → brought start end picked (d ∷ ds) ≡ weight start end (picked d.came) d.used d.size + brought start end picked ds
brought-cons start end picked d ds =
    sum_where (λ (d : Departure). (d.used, d.size)) (size_within start end) (picked d.came) d (filter (λ (d : Departure). picked d.came) ds)

weight-here : (moment end : ℕ) (picked : Bool) (bytes : ℕ) → moment ≤ end → weight moment end picked moment bytes ≡ cond picked bytes 0
weight-here moment end picked bytes h = grind (arith, nat_tests)

weight-narrow : (start later end : ℕ) (picked : Bool) (moment bytes : ℕ) → start ≤ later → weight later end picked moment bytes ≤ weight start end picked moment bytes
weight-narrow start later end picked moment bytes h = grind (arith, nat_tests)

-- a window that begins later holds no more
brought-narrow : (start later end : ℕ) (picked : Colour → Bool) (ds : List Departure) → start ≤ later → brought later end picked ds ≤ brought start end picked ds
brought-narrow start later end picked [] h = omega arith
brought-narrow start later end picked (d ∷ ds) h =
    omega (arith, brought-cons later end picked d ds, brought-cons start end picked d ds, weight-narrow start later end (picked d.came) d.used d.size h, brought-narrow start later end picked ds h)

-- a list holds no less than what stands behind its first
brought-tail : (start end : ℕ) (picked : Colour → Bool) (d : Departure) (ds : List Departure) → brought start end picked ds ≤ brought start end picked (d ∷ ds)
brought-tail start end picked d ds = omega (arith, brought-cons start end picked d ds)

-- ---- room for it

-- What comes up to a moment finds room, with some bytes to spare: from the newest moment on in the level and the tokens
-- given since, and in each window that begins later in the size and the tokens given in it.
pub record Room (given : ℕ → ℕ) (size spare : ℕ) (picked : Colour → Bool) (end newest level : ℕ) (ds : List Departure) : Type 0 where
  pub in_level : newest ≤ end → brought newest end picked ds + spare + given newest ≤ level + given end
  pub in_size : (start : ℕ) → newest ≤ start → start ≤ end → brought start end picked ds + spare + given start ≤ size + given end

-- once the tokens up to a moment are in
Room-filled : (given : ℕ → ℕ) (size spare : ℕ) (picked : Colour → Bool) (end newest level used now : ℕ) (ds : List Departure)
    → Room given size spare picked end newest level ds → newest ≤ used → FillsUp given size newest level used now
    → Room given size spare picked end used now ds
Room-filled given size spare picked end newest level used now ds room later (inl all) = record {
  in_level = λ h. omega (arith, all, room.in_level (omega (arith, later, h)), brought-narrow newest used end picked ds later);
  in_size = λ start h k. room.in_size start (omega (arith, later, h)) k;
}
Room-filled given size spare picked end newest level used now ds room later (inr full) = record {
  in_level = λ h. omega (arith, full, room.in_size used later h);
  in_size = λ start h k. room.in_size start (omega (arith, later, h)) k;
}

-- so the bucket has enough for a packet that is metered at the moment
Room-admits : (given : ℕ → ℕ) (size spare : ℕ) (picked : Colour → Bool) (end now : ℕ) (d : Departure) (ds : List Departure)
    → Room given size spare picked end d.used now (d ∷ ds) → d.used ≡ end → cond (picked d.came) d.size 0 + spare ≤ now
Room-admits given size spare picked end now d ds room last =
    let here : d.used ≤ end = omega (arith, last) in
    let same = ap given last in
    omega (arith, room.in_level here, brought-cons d.used end picked d ds, weight-here d.used end (picked d.came) d.size here, same)

-- and once that packet took no more than its bytes, there is room for those behind it
Room-rest : (given : ℕ → ℕ) (size spare : ℕ) (picked : Colour → Bool) (end now rest : ℕ) (d : Departure) (ds : List Departure)
    → Room given size spare picked end d.used now (d ∷ ds) → now ≤ rest + cond (picked d.came) d.size 0
    → Room given size spare picked end d.used rest ds
Room-rest given size spare picked end now rest d ds room took = record {
  in_level = λ h. omega (arith, took, room.in_level h, brought-cons d.used end picked d ds, weight-here d.used end (picked d.came) d.size h);
  in_size = λ start h k. omega (arith, room.in_size start h k, brought-tail start end picked d ds);
}

-- What keeps, in the windows that end at the moment, the rate of a bucket that is full at its origin, and what its size
-- has beside the spare bytes, finds room.
pub Room-opening : (rate origin burst size spare : ℕ) (picked : Colour → Bool) (end : ℕ) (ds : List Departure) → burst + spare ≤ size
    → KeepsUpTo end rate burst (input picked ds) → Room (given rate origin) size spare picked end origin size ds
Room-opening rate origin burst size spare picked end ds large kept = record {
  in_level = λ h. omega (arith, large, kept origin h, given-window_least rate origin origin end (omega arith) h);
  in_size = λ start h k. omega (arith, large, kept start k, given-window_least rate origin start end h k);
}

-- ---- meters that follow some rules

-- at each packet something holds of the meter before it and of the packet
abbrev pub Along : {P L : Type 0} → Rules P L → (State P L → Offer → Type 0) → State P L → List Offer → Type 0
Along rules such m [] = Unit {0}
Along rules such m (o ∷ os) = such m o × Along rules such (after rules m o) os

pub Along-any : {P L : Type 0} (rules : Rules P L) (m : State P L) (offers : List Offer) → Along rules (λ m o. Unit {0}) m offers
Along-any rules m [] = tt
Along-any rules m (o ∷ os) = (tt, Along-any rules (after rules m o) os)

-- what holds of all departures
pub Along-departures : {P L : Type 0} (rules : Rules P L) (such : Departure → Type 0) (m : State P L) (offers : List Offer)
    → All such (departures (how rules) m offers) → Along rules (λ m o. such (departure (how rules) m o)) m offers
Along-departures rules such m [] all = tt
Along-departures rules such m (o ∷ os) all = (
  All-head such (departure (how rules) m o) (departures (how rules) (after rules m o) os) all,
  Along-departures rules such (after rules m o) os (All-tail such (departure (how rules) m o) (departures (how rules) (after rules m o) os) all),
)

-- what two things that hold at each packet say of the departures
pub departures-along : {P L : Type 0} (rules : Rules P L) (fits : State P L → Type 0) (one other : State P L → Offer → Type 0) (such : Departure → Type 0)
    → ((m : State P L) (o : Offer) → fits m → one m o → other m o → such (departure (how rules) m o))
    → ((m : State P L) (o : Offer) → fits m → fits (after rules m o))
    → (m : State P L) → fits m → (offers : List Offer) → Along rules one m offers → Along rules other m offers → All such (departures (how rules) m offers)
departures-along rules fits one other such says stays m ok [] a b k d below = absurd (omega (arith, below))
departures-along rules fits one other such says stays m ok (o ∷ os) a b zero d below = says m o ok a.0 b.0
departures-along rules fits one other such says stays m ok (o ∷ os) a b (suc k) d below =
    departures-along rules fits one other such says stays (after rules m o) (stays m o ok) os a.1 b.1 k d (omega (arith, below))

-- A meter's bucket, as a number of its levels, has enough for each packet of a picked colour that is metered at a moment,
-- with some bytes to spare: it fills up before each packet, a packet takes no more than its bytes, and only where it came
-- with a picked colour, and what comes up to the moment finds room.
pub enough : {P L : Type 0} (rules : Rules P L) (fits : State P L → Type 0) (such : State P L → Offer → Type 0) (picked : Colour → Bool)
    (level : L → ℕ) (size spare : P → ℕ) (given : P → ℕ → ℕ → ℕ) (end : ℕ)
    → ((m : State P L) (moment : ℕ)
    → FillsUp (given m.parameters m.origin) (size m.parameters) m.newest (level m.levels) (used m.newest moment) (level (levels_at rules m (used m.newest moment))))
    → ((m : State P L) (o : Offer) → fits m → such m o → level (levels_at rules m (used m.newest o.moment)) ≤ level (after rules m o).levels + cond (picked o.came) o.size 0)
    → ((m : State P L) (o : Offer) → fits m → fits (after rules m o))
    → (m : State P L) → fits m → (offers : List Offer) → Along rules such m offers
    → Room (given m.parameters m.origin) (size m.parameters) (spare m.parameters) picked end m.newest (level m.levels) (departures (how rules) m offers)
    → Along rules (λ m o. used m.newest o.moment ≡ end → cond (picked o.came) o.size 0 + spare m.parameters ≤ level (levels_at rules m (used m.newest o.moment))) m offers
unfolding after
enough rules fits such picked level size spare given end fills drains stays m ok [] along room = tt
enough rules fits such picked level size spare given end fills drains stays m ok (o ∷ os) along room =
    let g = given m.parameters m.origin in
    let before = level (levels_at rules m (used m.newest o.moment)) in
    let d = departure (how rules) m o in
    let ds = departures (how rules) (after rules m o) os in
    let filled = Room-filled g (size m.parameters) (spare m.parameters) picked end m.newest (level m.levels) (used m.newest o.moment) before (d ∷ ds) room
    (newest_le-used m.newest o.moment) (fills m o.moment)
    in
    let rest = Room-rest g (size m.parameters) (spare m.parameters) picked end before (level (after rules m o).levels) d ds filled (drains m o ok along.0) in (
      Room-admits g (size m.parameters) (spare m.parameters) picked end before d ds filled,
      enough rules fits such picked level size spare given end fills drains stays (after rules m o) (stays m o ok) os along.1 rest,
    )

-- each packet that came with a colour left with it
abbrev pub Keeping : Colour → List Departure → Type 0
Keeping colour ds = All (λ (d : Departure). d.came ≡ colour → d.left ≡ colour) ds

-- each packet that came with a colour and was metered at a moment left with it
abbrev pub KeepingAt : ℕ → Colour → List Departure → Type 0
KeepingAt moment colour ds = All (λ (d : Departure). d.used ≡ moment → d.came ≡ colour → d.left ≡ colour) ds

-- a meter that heeds the colours that packets come with
abbrev pub IsAware : {P L : Type 0} → State P L → Type 0
IsAware m = m.mode ≡ Aware

-- does so after each packet
pub IsAware-after : {P L : Type 0} (rules : Rules P L) (m : State P L) (o : Offer) → IsAware m → IsAware (after rules m o)
unfolding after
IsAware-after rules m o aware = aware

-- in which a packet leaves with the colour that the rules give one that came as it did
pub left_aware : {P L : Type 0} (rules : Rules P L) (m : State P L) (o : Offer) (colour : Colour) → IsAware m
    → (o.came ≡ colour → rules.coloured (levels_at rules m (used m.newest o.moment)) o.size o.came ≡ colour)
    → o.came ≡ colour → colour_of rules m o ≡ colour
unfolding colour_of levels_at
left_aware rules m o colour aware stays came = rw aware (stays came)

-- and takes from a bucket what they say
pub drains_aware : {P L : Type 0} (rules : Rules P L) (picked : Colour → Bool) (level : L → ℕ) (m : State P L) (o : Offer) → IsAware m
    → level (levels_at rules m (used m.newest o.moment))
    ≤ level (rules.without (levels_at rules m (used m.newest o.moment)) o.size (rules.coloured (levels_at rules m (used m.newest o.moment)) o.size o.came)) + cond (picked o.came) o.size 0
    → level (levels_at rules m (used m.newest o.moment)) ≤ level (after rules m o).levels + cond (picked o.came) o.size 0
unfolding after colour_of levels_at
drains_aware rules picked level m o aware drains = rw aware drains

-- before each packet that is metered at a moment a bucket has the bytes of one that came with a picked colour
abbrev pub Holds : {P L : Type 0} → Rules P L → (Colour → Bool) → (L → ℕ) → ℕ → State P L → Offer → Type 0
Holds rules picked level end m o = used m.newest o.moment ≡ end → cond (picked o.came) o.size 0 + 0 ≤ level (levels_at rules m (used m.newest o.moment))

-- A bucket of an aware meter that a rate fills has enough for the packets of a picked colour that are metered at a moment,
-- where in the windows that end then those keep its rate and its size, and it gives no more than their bytes.
pub bucket_holds : {P L : Type 0} (rules : Rules P L) (such : State P L → Offer → Type 0) (picked : Colour → Bool) (level : L → ℕ) (size rate : P → ℕ) (end : ℕ)
    → IsFilledAt rules level size rate → ((p : P) → level (rules.full p) ≡ size p)
    → ((m : State P L) (o : Offer) → IsAware m → such m o
    → level (levels_at rules m (used m.newest o.moment))
    ≤ level (rules.without (levels_at rules m (used m.newest o.moment)) o.size (rules.coloured (levels_at rules m (used m.newest o.moment)) o.size o.came)) + cond (picked o.came) o.size 0)
    → (p : P) (origin : ℕ) (offers : List Offer) → Along rules such (opening rules p Aware origin) offers
    → KeepsUpTo end (rate p) (size p) (input picked (departures (how rules) (opening rules p Aware origin) offers))
    → Along rules (Holds rules picked level end) (opening rules p Aware origin) offers
unfolding opening
bucket_holds rules such picked level size rate end fill full drains p origin offers along kept =
    let m = opening rules p Aware origin in
    let room = Room-opening (rate p) origin (size p) (size p) 0 picked end (departures (how rules) m offers) (omega arith) kept in
    enough rules IsAware such picked level size (λ _. 0) (λ p. given (rate p)) end
    (λ m moment. rw (fill m moment) (FillsUp-with_tokens (rate m.parameters) m.origin (size m.parameters) m.newest moment (level m.levels)))
    (λ m o aware found. drains_aware rules picked level m o aware (drains m o aware found)) (IsAware-after rules) m refl offers along (rw (full p) room)
