-- What the fields of packets under way keep.
use Rattle.std.proofs.Common.{◌≡◌, ◌<◌, ◌≤◌, ◌+◌, ◌-◌, ℕ, suc, Bool, true, false, List, [], ◌∷◌, ◌++◌, length, length-append, length-set, get_or, map, Option, None, Some, refl, sym, ap, ◌∙◌, subst, arith, IsPermutation, nat_eq, nat_lt, slice_get, slice_index, slice_set, unwrap_or, if◌then◌else◌}
use Rattle.std.specs.List.{IsDistinct, list_any}
use Rattle.std.proofs.lemmas.Bool.Decides.{nat_tests}
use Rattle.std.proofs.lemmas.List.{length-map}
use Rattle.std.proofs.lemmas.List.Elements.{All-head}
use Rattle.moment_core.specs.declared.colour.Colour.{Colour}
use Rattle.meter_book_base.specs.declared.any_meter.AnyMeter.{AnyMeter}
use Rattle.meter_fabric_base.specs.Orders.{in_order}
use Rattle.meter_fabric_base.proofs.OrderLaws.{in_order-permutes}
use Rattle.ds_checker.specs.Acceptance.{Table}
use Rattle.ds_conductor_base.proofs.CountLaws.{counted_behind, counted_first, counted_left, counted_made, counted_sent}
use Rattle.ds_conductor_base.proofs.StreamLaws.{handed_comes, handed_stream, made_more, made_stream, own_apart, sent_comes, sent_stream}
use Rattle.ds_conductor_base.specs.KeptStreams.{AreCounted}
use Rattle.ds_conductor_base.specs.Streams.{IsAmong, IsStream, Stream, colours_left, decided, decided_by, handed, handed_by, made_due, with_sent}
use Rattle.ds_conductor_base.specs.Packets.{carried_in, carried_of, lefts_of}
use Rattle.ds_conductor_base.specs.Passing.{Carried, Traffic, came_in, came_of, passed}
use Rattle.ds_conductor_base.specs.Visits.{is_before, is_same, visit_to}
use Rattle.ds_conductor_base.specs.Ways.{stops_at, Stop}
use Rattle.ds_conductor_base.specs.declared.passing.OnTheWay.{OnTheWay}
use Rattle.ds_conductor_base.specs.declared.sent.Sent.{Sent}
use Rattle.ds_conductor_base.specs.declared.visit.Visit.{Visit}

abbrev pub stream : Table → List (Option AnyMeter) → ℕ → List OnTheWay → List Visit → Stream
stream t meters first packets waiting = record { table = t; traffic = record { meters = meters; first = first; packets = carried_in packets }; waiting = waiting }

pub length-carried : (packets : List OnTheWay) → length (carried_in packets) ≡ length packets
length-carried packets = length-map packets carried_of

length-lefts : (packets : List OnTheWay) → length (lefts_of packets) ≡ length packets
length-lefts packets = length-map packets (λ (p : OnTheWay). p.left)

-- ---- a visit that is made

module _ (t : Table) (meters : List (Option AnyMeter)) (first : ℕ) (packets : List OnTheWay) (waiting : List Visit) (v : Visit) (rest : List Visit)
    (split : waiting ≡ v ∷ rest) (is : IsStream (stream t meters first packets waiting)) (counted : AreCounted first (lefts_of packets) waiting) where
  split_stream : IsStream (stream t meters first packets (v ∷ rest))
  split_stream = subst (λ vs. IsStream (stream t meters first packets vs)) split is

  here : IsAmong first (length (carried_in packets)) v
  here = All-head (IsAmong first (length (carried_in packets))) v rest split_stream.among

  pub made_from : first ≤ v.place
  made_from = here.0

  pub made_within : v.place - first < length packets
  made_within = let long = length-carried packets in omega (arith, here.0, here.1, long)

  within_lefts : v.place - first < length (lefts_of packets)
  within_lefts = let long = length-lefts packets in omega (arith, made_within, long)

  pub made_left : 0 < slice_index (lefts_of packets) (v.place - first)
  made_left = counted_left first (lefts_of packets) v rest made_from within_lefts (subst (λ vs. AreCounted first (lefts_of packets) vs) split counted)

  module _ (after : List (Option AnyMeter)) (behind : List OnTheWay)
      (traffic : passed (record { meters = meters; first = first; packets = carried_in packets }) v ≡ record { meters = after; first = first; packets = carried_in behind })
      (lefts : lefts_of behind ≡ slice_set (lefts_of packets) (v.place - first) (slice_index (lefts_of packets) (v.place - first) - 1)) where
    pub made_is : IsStream (stream t after first behind rest)
    made_is =
        subst (λ (g : Traffic). IsStream (record { table = t; traffic = g; waiting = rest })) traffic
        (made_stream t (record { meters = meters; first = first; packets = carried_in packets }) v rest split_stream)

    pub made_counted : AreCounted first (lefts_of behind) rest
    made_counted =
        subst (λ ns. AreCounted first ns rest) (sym lefts)
        (counted_made first (lefts_of packets) v rest made_from within_lefts (subst (λ vs. AreCounted first (lefts_of packets) vs) split counted))

    pub made_count : length behind ≡ length packets
    made_count =
        sym (length-lefts behind) ∙ ap length lefts ∙ length-set (lefts_of packets) (v.place - first) (slice_index (lefts_of packets) (v.place - first) - 1) ∙ length-lefts packets

    pub made_same : (moment : ℕ) → v.moment ≤ moment → made_due moment (stream t after first behind rest) ≡ made_due moment (stream t meters first packets waiting)
    made_same moment up =
        ap (λ (g : Traffic). made_due moment (record { table = t; traffic = g; waiting = rest })) (sym traffic)
        ∙ made_more moment t (record { meters = meters; first = first; packets = carried_in packets }) v rest up
        ∙ ap (λ vs. made_due moment (stream t meters first packets vs)) (sym split)

-- ---- a packet that is sent

pub own_stops : (t : Table) (ways shown : List (List Stop)) (flow : ℕ) (stops : List Stop) → ((f : ℕ) → unwrap_or (slice_get ways f) [] ≡ stops_at t f) → shown ≡ ways
    → stops ≡ unwrap_or (slice_get shown flow) [] → stops ≡ stops_at t flow
own_stops t ways shown flow stops own same is = is ∙ ap (λ ws. unwrap_or (slice_get ws flow) []) same ∙ own flow

carried-both : (packets : List OnTheWay) (p : OnTheWay) → carried_in (packets ++ p ∷ []) ≡ carried_in packets ++ carried_of p ∷ []
carried-both [] p = refl
carried-both (q ∷ packets) p = ap (λ ps. carried_of q ∷ ps) (carried-both packets p)

lefts-both : (packets : List OnTheWay) (p : OnTheWay) → lefts_of (packets ++ p ∷ []) ≡ lefts_of packets ++ p.left ∷ []
lefts-both [] p = refl
lefts-both (q ∷ packets) p = ap (λ ns. q.left ∷ ns) (lefts-both packets p)

module _ (t : Table) (meters : List (Option AnyMeter)) (first : ℕ) (packets : List OnTheWay) (waiting : List Visit) (s : Sent) (place : ℕ) (stops : List Stop)
    (placed : place ≡ first + length packets) (own : stops ≡ stops_at t s.flow) (is : IsStream (stream t meters first packets waiting)) where
  next_is : place ≡ first + length (carried_in packets)
  next_is = placed ∙ ap (λ n. first + n) (sym (length-carried packets))

  own_visits : map (visit_to (first + length (carried_in packets)) s) (stops_at t s.flow) ≡ map (visit_to place s) stops
  own_visits = ap (λ n. map (visit_to n s) (stops_at t s.flow)) (sym next_is) ∙ ap (map (visit_to place s)) (sym own)

  pub sent_apart : IsDistinct is_same (waiting ++ map (visit_to place s) stops)
  sent_apart = subst (λ vs. IsDistinct is_same (waiting ++ vs)) own_visits (own_apart (stream t meters first packets waiting) s is)

  module _ (after : List Visit) (behind : List OnTheWay) (colour : Colour) (left : ℕ) (added : after ≡ in_order is_before (waiting ++ map (visit_to place s) stops))
      (pushed : behind ≡ packets ++ record { size = s.size; colour = colour; left = left } ∷ []) (came : colour ≡ came_of t s) where
    abbrev put : OnTheWay
    put = record { size = s.size; colour = colour; left = left }

    carried : carried_in behind ≡ carried_in packets ++ came_in t s ∷ []
    carried =
        ap carried_in pushed ∙ carried-both packets put
        ∙ ap (λ (c : Colour). carried_in packets ++ (let p : Carried = record { size = s.size; colour = c } in p) ∷ []) came

    pub sent_told : stream t meters first behind after ≡ with_sent (stream t meters first packets waiting) s
    sent_told =
        ap (λ (ps : List Carried). let u : Stream = record { table = t; traffic = record { meters = meters; first = first; packets = ps }; waiting = after } in u) carried
        ∙ ap (λ (vs : List Visit). let u : Stream = record { table = t; traffic = record { meters = meters; first = first; packets = carried_in packets ++ came_in t s ∷ [] }; waiting = vs } in u)
        (added ∙ ap (λ vs. in_order is_before (waiting ++ vs)) (sym own_visits))

    pub sent_is : IsStream (stream t meters first behind after)
    sent_is = subst IsStream (sym sent_told) (sent_stream (stream t meters first packets waiting) s is)

    pub sent_all : (back : List Sent) → colours_left (stream t meters first behind after) back ≡ colours_left (stream t meters first packets waiting) (s ∷ back)
    sent_all back = ap (λ u. colours_left u back) sent_told ∙ sent_comes (stream t meters first packets waiting) s back is

    pub sent_counted : left ≡ length stops → AreCounted first (lefts_of packets) waiting → AreCounted first (lefts_of behind) after
    sent_counted count counted =
        let long = length-lefts packets in
        let number : place ≡ first + length (lefts_of packets) = omega (arith, placed, long) in
        let carried_long = length-carried packets in
        subst (λ ns. AreCounted first ns after) (sym (ap lefts_of pushed ∙ lefts-both packets put ∙ ap (λ n. lefts_of packets ++ n ∷ []) count))
        (subst (λ vs. AreCounted first (lefts_of packets ++ length stops ∷ []) vs) (sym added)
        (counted_sent first (lefts_of packets) waiting (in_order is_before (waiting ++ map (visit_to place s) stops)) s stops counted
        (λ k d short. let among = is.among k d short in omega (arith, among.1, carried_long, long))
        (subst (λ n. IsPermutation (waiting ++ map (visit_to n s) stops) (in_order is_before (waiting ++ map (visit_to place s) stops))) number
        (in_order-permutes is_before (waiting ++ map (visit_to place s) stops)))))

    pub sent_count : length behind ≡ suc (length packets)
    sent_count = let long = length-append packets (put ∷ []) in let same = ap length pushed in omega (arith, same, long)

-- ---- a packet that is handed out

-- the first still makes visits
pub not_yet : (first : ℕ) (packets : List OnTheWay) (waiting : List Visit) (p : OnTheWay) → nat_lt 0 (length packets) ≡ true → p ≡ get_or packets 0 p → 0 < p.left
    → AreCounted first (lefts_of packets) waiting → decided_by first waiting (carried_in packets) ≡ None
not_yet first [] waiting p there is left counted = absurd (grind (arith, nat_tests))
not_yet first (q ∷ packets) waiting p there is left counted = by_test (list_any (λ v. nat_eq v.place first) waiting) (counted_first first q.left (lefts_of packets) waiting counted ∙ some)
  where
    same : p.left ≡ q.left
    same = ap (λ (r : OnTheWay). r.left) is

    some : nat_lt 0 q.left ≡ true
    some = grind (arith, nat_tests)

    by_test : (b : Bool) → b ≡ true → ◌≡◌ {A = Option Colour} (if b then None else Some q.colour) None
    by_test true waits = refl
    by_test false waits = absurd cc

-- the first is what was looked at
pub first_is : (packets rest : List OnTheWay) (seen p : OnTheWay) → packets ≡ p ∷ rest → seen ≡ get_or packets 0 seen → seen.left ≡ p.left
first_is packets rest seen p split is = ap (λ (q : OnTheWay). q.left) (is ∙ ap (λ ps. get_or ps 0 seen) split)

module _ (t : Table) (meters : List (Option AnyMeter)) (first : ℕ) (packets rest : List OnTheWay) (p : OnTheWay) (waiting : List Visit) (split : packets ≡ p ∷ rest)
    (through : p.left ≡ 0) (counted : AreCounted first (lefts_of packets) waiting) where
  abbrev now : Stream
  now = stream t meters first packets waiting

  abbrev after : ℕ → Stream
  after n = stream t meters n rest waiting

  next : first + 1 ≡ suc first
  next = omega arith

  none_waits : list_any (λ v. nat_eq v.place first) waiting ≡ false
  none_waits =
      counted_first first p.left (lefts_of rest) waiting (subst (λ ps. AreCounted first (lefts_of ps) waiting) split counted)
      ∙ ap (nat_lt 0) through

  pub handed_colour : decided (stream t meters first packets waiting) ≡ Some p.colour
  handed_colour =
      ap (λ ps. decided_by first waiting (carried_in ps)) split
      ∙ ap (λ (b : Bool). let o : Option Colour = if b then None else Some p.colour in o) none_waits

  pub handed_told : stream t meters (first + 1) rest waiting ≡ handed (stream t meters first packets waiting)
  handed_told =
      ap after next
      ∙ ap (λ ps. handed_by (Some p.colour) (stream t meters first ps waiting)) (sym split)
      ∙ ap (λ o. handed_by o now) (sym handed_colour)

  pub handed_is : IsStream (stream t meters first packets waiting) → IsStream (stream t meters (first + 1) rest waiting)
  handed_is is =
      subst (λ n. IsStream (after n)) (sym next)
      (handed_stream t meters first (carried_of p) (carried_in rest) waiting none_waits (subst (λ ps. IsStream (stream t meters first ps waiting)) split is))

  pub handed_counted : AreCounted (first + 1) (lefts_of rest) waiting
  handed_counted =
      subst (λ n. AreCounted n (lefts_of rest) waiting) (sym next)
      (counted_behind first p.left (lefts_of rest) waiting (subst (λ ps. AreCounted first (lefts_of ps) waiting) split counted))

  pub handed_all : IsStream (stream t meters first packets waiting) → (back : List Sent)
      → colours_left (stream t meters first packets waiting) back ≡ p.colour ∷ colours_left (stream t meters (first + 1) rest waiting) back
  handed_all is back =
      let there = subst (λ ps. IsStream (stream t meters first ps waiting)) split is in
      ap (λ ps. colours_left (stream t meters first ps waiting) back) split
      ∙ handed_comes t meters first (carried_of p) (carried_in rest) waiting back there.apart there.among none_waits
      ∙ ap (λ n. p.colour ∷ colours_left (after n) back) (sym next)
