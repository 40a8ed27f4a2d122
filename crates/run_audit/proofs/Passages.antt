-- The receipts of a packet from the meters on, as it was sent.
use Rattle.std.proofs.Common.{◌≡◌, ℕ, ◌+◌, ◌≤◌, zero, suc, Bool, true, false, cond, List, [], ◌∷◌, ◌++◌, map, length, ap, arith, get_or, Some, None, nat_eq, Option, if◌then◌else◌, sum_by, filter, All}
use Rattle.std.proofs.lemmas.List.{get_or_append_left, get_or-append-add, length-append}
use Rattle.std.proofs.lemmas.Option.{same_Some}
use Rattle.moment_core.specs.declared.colour.Colour.{Colour}
use Rattle.moment_core.specs.declared.colour.Colour.TheVariants.{Green, Yellow, Red}
use Rattle.moment_core.specs.Colours.{IsNoBetter}
use Rattle.moment_core.specs.Conformance.{size_within, Keeps}
use Rattle.envelope_core.proofs.Windows.{sum_by-mono, sum_by-map, sum_by-flat_map}
use Rattle.meter_book.specs.declared.row.Row.{Row}
use Rattle.ds_domain_base.specs.Domains.{Domain}
use Rattle.ds_domain_base.specs.declared.contract.Contract.{Contract}
use Rattle.ds_domain_base.specs.declared.terms.Terms.{Terms}
use Rattle.ds_domain_base.specs.declared.terms.Terms.TheVariants.{Trusted, Policed}
use Rattle.meter_fabric_base.specs.Sites.{edge_hops, hops_along, site_of}
use Rattle.meter_fabric_base.specs.Trails.{IsTrail, Packet}
use Rattle.meter_fabric_base.specs.declared.trail.Receipt.{Receipt}
use Rattle.run_audit.specs.Premises.{IsTimely}
use Rattle.run_audit.specs.Runs.{Passage, told, told_by}
use Rattle.run_audit.specs.Sendings.{Sending, sending_by, sending_of, sent_item, sent_items}
use Rattle.run_audit.proofs.Ways.{Goes, IsUsed}

-- ---- what was not sent weighs nothing

abbrev pub moment_of : Option Sending → ℕ
moment_of None = 0
moment_of (Some s) = s.moment

abbrev pub weight_of : (Colour → Bool) → ℕ → Option Sending → ℕ
weight_of picked size None = 0
weight_of picked size (Some s) = cond (picked s.colour) size 0

abbrev pub receipts_of : Option Sending → List Receipt
receipts_of None = []
receipts_of (Some s) = s.receipts

abbrev pub item_of : (Colour → Bool) → Contract → Passage → ℕ × ℕ
item_of picked c p = (moment_of (sending_of c p), weight_of picked p.packet.size (sending_of c p))

weight_of-sent : (picked : Colour → Bool) (size start end : ℕ) (sent : Option Sending)
    → size_within start end (moment_of sent, weight_of picked size sent) ≤ sum_by (size_within start end) (sent_item picked size sent)
weight_of-sent picked size start end None = nothing start end
  where
    nothing : (start end : ℕ) → size_within start end (0, 0) ≤ 0
    nothing start end = grind arith
weight_of-sent picked size start end (Some s) = by_test (picked s.colour)
  where
    by_test : (t : Bool) → size_within start end (s.moment, cond t size 0) ≤ sum_by (size_within start end) (if t then (s.moment, size) ∷ [] else [])
    by_test true = omega arith
    by_test false = grind arith

pub Keeps-sent : (picked : Colour → Bool) (c : Contract) (ps : List Passage) (rate burst : ℕ)
    → Keeps rate burst (sent_items picked c ps)
    → Keeps rate burst (map (item_of picked c) ps)
Keeps-sent picked c ps rate burst kept start end ordered =
    let weigh = size_within start end in
    let less = sum_by-mono (λ p. weigh (item_of picked c p)) (λ p. sum_by weigh (sent_item picked p.packet.size (sending_of c p))) ps
    (λ k e h. let p = get_or ps k e in weight_of-sent picked p.packet.size start end (sending_of c p)) in
    omega (arith, less, kept start end ordered, sum_by-map weigh (item_of picked c) ps, sum_by-flat_map weigh (λ p. sent_item picked p.packet.size (sending_of c p)) ps)

-- ---- its trail from the meters on

pub trail_sent : (d : Domain) (flow : ℕ) (packet : Packet) (begun : ℕ) (came : Colour) (terms : Terms) (path : List (List ℕ)) (receipts : List Receipt) (s : Sending)
    → IsTrail packet begun came (edge_hops d flow terms ++ hops_along d 1 path) receipts
    → sending_by terms came begun receipts ≡ Some s
    → IsTrail packet s.moment s.colour (hops_along d 1 path) s.receipts
unfolding IsTrail
trail_sent d flow packet begun came (Trusted committed peak) path receipts s trail sent = rw (← same_Some (record { moment = begun; colour = came; receipts = receipts }) s sent) trail
trail_sent d flow packet begun came (Policed parameters mode) path [] s trail sent = absurd cc
trail_sent d flow packet begun came (Policed parameters mode) path (edge ∷ receipts) s trail sent =
    rw (← same_Some (record { moment = edge.row.arrival; colour = edge.row.left; receipts = receipts }) s sent) trail.1

pub goes_along : (d : Domain) (site skew : ℕ) (packet : Packet) (number moment : ℕ) (colour : Colour) (from : List ℕ) (path : List (List ℕ)) (rs : List Receipt)
    → IsTrail packet moment colour (hops_along d number path) rs
    → IsTimely d from path moment rs
    → All (IsUsed site skew) rs
    → Goes d site skew from path moment rs
unfolding IsTrail hops_along IsTimely Goes
goes_along d site skew packet number moment colour from path [] trail timely used = tt
goes_along d site skew packet number moment colour from [] (r ∷ rs) trail timely used = absurd trail
goes_along d site skew packet number moment colour from (to ∷ path) (r ∷ rs) trail timely used =
    (trail.0.site, timely.0, used 0 r (omega arith), goes_along d site skew packet (suc number) r.row.arrival r.row.left to path rs trail.1 timely.1 (λ k e h. used (suc k) e (omega (arith, h))))

-- ---- colours along a trail

IsNoBetter-trans : (a b c : Colour) → IsNoBetter a b → IsNoBetter b c → IsNoBetter a c
IsNoBetter-trans Green b c ab bc = tt
IsNoBetter-trans Yellow Green c ab bc = absurd ab
IsNoBetter-trans Yellow Yellow c ab bc = bc
IsNoBetter-trans Yellow Red Green ab bc = absurd bc
IsNoBetter-trans Yellow Red Yellow ab bc = absurd bc
IsNoBetter-trans Yellow Red Red ab bc = tt
IsNoBetter-trans Red Green c ab bc = absurd ab
IsNoBetter-trans Red Yellow c ab bc = absurd ab
IsNoBetter-trans Red Red c ab bc = bc

-- where no meter improves a colour, a packet comes in with the colour that it was sent with, or a worse one
pub comes_no_better : (d : Domain) (packet : Packet) (number moment : ℕ) (sent colour : Colour) (path : List (List ℕ)) (rs : List Receipt)
    → IsTrail packet moment colour (hops_along d number path) rs
    → IsNoBetter sent colour
    → All (λ r. IsNoBetter r.row.came r.row.left) rs
    → All (λ r. IsNoBetter sent r.row.came) rs
unfolding IsTrail hops_along
comes_no_better d packet number moment sent colour path [] trail worse never k e h = absurd (omega (arith, h))
comes_no_better d packet number moment sent colour [] (r ∷ rs) trail worse never k e h = absurd trail
comes_no_better d packet number moment sent colour (to ∷ path) (r ∷ rs) trail worse never zero e h =
    let came : r.row.came ≡ colour = ap (λ a. a.came) trail.0.arrival in rw came worse
comes_no_better d packet number moment sent colour (to ∷ path) (r ∷ rs) trail worse never (suc k) e h =
    let came : r.row.came ≡ colour = ap (λ a. a.came) trail.0.arrival in
    let left : IsNoBetter colour r.row.left = rw (← came) (never 0 r (omega arith)) in
    comes_no_better d packet (suc number) r.row.arrival sent r.row.left path rs trail.1 (IsNoBetter-trans sent colour r.row.left worse left)
    (λ i x l. never (suc i) x (omega (arith, l))) k e (omega (arith, h))

-- where each meter keeps a colour, a packet of that colour comes in with it and leaves with it
pub comes_and_leaves : (d : Domain) (packet : Packet) (number moment : ℕ) (colour : Colour) (path : List (List ℕ)) (rs : List Receipt)
    → IsTrail packet moment colour (hops_along d number path) rs
    → All (λ r. r.row.came ≡ colour → r.row.left ≡ colour) rs
    → All (λ r. (r.row.came ≡ colour) × (r.row.left ≡ colour)) rs
unfolding IsTrail hops_along
comes_and_leaves d packet number moment colour path [] trail stays k e h = absurd (omega (arith, h))
comes_and_leaves d packet number moment colour [] (r ∷ rs) trail stays k e h = absurd trail
comes_and_leaves d packet number moment colour (to ∷ path) (r ∷ rs) trail stays zero e h =
    let came : r.row.came ≡ colour = ap (λ a. a.came) trail.0.arrival in (came, stays 0 r (omega arith) came)
comes_and_leaves d packet number moment colour (to ∷ path) (r ∷ rs) trail stays (suc k) e h =
    let came : r.row.came ≡ colour = ap (λ a. a.came) trail.0.arrival in
    let left : r.row.left ≡ colour = stays 0 r (omega arith) came in
    comes_and_leaves d packet (suc number) r.row.arrival colour path rs (rw (← left) trail.1)
    (λ i x l. stays (suc i) x (omega (arith, l))) k e (omega (arith, h))

-- each receipt is of a meter of the path and of the packet's size
pub receipts_along : (d : Domain) (packet : Packet) (number moment : ℕ) (colour : Colour) (path : List (List ℕ)) (rs : List Receipt)
    → (P : Receipt → Type 0) → All (λ to. (r : Receipt) → r.site ≡ site_of d to → r.row.size ≡ packet.size → P r) path
    → IsTrail packet moment colour (hops_along d number path) rs
    → All P rs
unfolding IsTrail hops_along
receipts_along d packet number moment colour path [] P along trail k e h = absurd (omega (arith, h))
receipts_along d packet number moment colour [] (r ∷ rs) P along trail k e h = absurd trail
receipts_along d packet number moment colour (to ∷ path) (r ∷ rs) P along trail zero e h =
    along 0 to (omega arith) r trail.0.site (ap (λ a. a.size) trail.0.arrival)
receipts_along d packet number moment colour (to ∷ path) (r ∷ rs) P along trail (suc k) e h =
    receipts_along d packet (suc number) r.row.arrival r.row.left path rs P (λ i x l. along (suc i) x (omega (arith, l))) trail.1 k e (omega (arith, h))

-- ---- what holds of the rows of a site holds of the receipts from there

All-left : {X : Type 0} (P : X → Type 0) (xs ys : List X) → All P (xs ++ ys) → All P xs
All-left P xs ys all k e h = rw (← get_or_append_left xs ys e k h) (all k e (omega (arith, h, length-append xs ys)))

All-right : {X : Type 0} (P : X → Type 0) (xs ys : List X) → All P (xs ++ ys) → All P ys
All-right P xs ys all k e h = rw (← get_or-append-add xs ys k e) (all (length xs + k) e (omega (arith, h, length-append xs ys)))

All-picked : {X Y : Type 0} (P : Y → Type 0) (f : X → Y) (test : X → Bool) (xs : List X) → All P (map f (filter test xs)) → All (λ x. test x ≡ true → P (f x)) xs
All-picked P f test [] all k e h = absurd (omega (arith, h))
All-picked P f test (x ∷ xs) all zero e h = λ passed. let whole : All P (map f (x ∷ filter test xs)) = rw passed at all in whole 0 (f x) (omega arith)
All-picked P f test (x ∷ xs) all (suc k) e h = All-picked P f test xs (rest (test x) all) k e (omega (arith, h))
  where
    rest : (t : Bool) → All P (map f (cond t (x ∷ filter test xs) (filter test xs))) → All P (map f (filter test xs))
    rest true every i y l = every (suc i) y (omega (arith, l))
    rest false every i y l = every i y l

pub told_each : (site : ℕ) (P : Row → Type 0) (ps : List Passage) → All P (told site ps) → All (λ p. All (λ r. nat_eq r.site site ≡ true → P r.row) p.receipts) ps
told_each site P [] all k e h = absurd (omega (arith, h))
told_each site P (p ∷ ps) all zero e h = All-picked P (λ (r : Receipt). r.row) (λ r. nat_eq r.site site) p.receipts (All-left P (told_by site p) (told site ps) all)
told_each site P (p ∷ ps) all (suc k) e h = told_each site P ps (All-right P (told_by site p) (told site ps) all) k e (omega (arith, h))
