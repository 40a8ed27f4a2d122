-- What is taken along the path of a contract where one like it comes to a table, and where two do.
use Rattle.std.proofs.Common.{arith, ◌≡◌, ℕ, suc, ◌+◌, ◌-◌, ◌<◌, ◌≤◌, Bool, List, [], ◌∷◌, ◌++◌, length, drop, take, set, replicate, slice_get, Option, None, Some, refl, sym, ap, subst, ◌∙◌, bytes_eq}
use Rattle.std.specs.List.{IsDistinct}
use Rattle.std.specs.Map.{keys_of}
use Rattle.std.proofs.lemmas.List.{append-nil, append_assoc, drop-drop, drop-set-lt, length-drop, length-replicate, take-append-drop}
use Rattle.ds_domain_base.specs.Domains.{Domain}
use Rattle.ds_domain_base.specs.Routes.{IsRoute, Route}
use Rattle.ds_domain_base.specs.Sent.{has_peak}
use Rattle.ds_domain_base.specs.declared.contract.Contract.{Contract}
use Rattle.ds_domain_base.specs.declared.parts.Meter.{Meter}
use Rattle.ds_domain_base.specs.declared.route.Leg.{Leg}
use Rattle.ds_certificate.specs.Columns.{Bound}
use Rattle.ds_certificate.specs.Sources.{source_on}
use Rattle.ds_certificate.specs.declared.source.Source.{Source}
use Rattle.ds_checker.specs.Acceptance.{Table}
use Rattle.ds_checker.specs.Besides.{IsBeside, IsOffered, Offer, rest_of}
use Rattle.ds_checker.specs.Growths.{growth_by, growths_along, growths_of, growths_on, headroom_in, no_growth}
use Rattle.ds_checker.specs.Loads.{Share}
use Rattle.ds_checker.specs.Routed.{share_with, sums_on}
use Rattle.ds_checker.specs.Sums.{loads_of, with_share}
use Rattle.ds_checker.specs.declared.headroom.Growth.{Growth}
use Rattle.ds_checker.specs.declared.headroom.Headroom.{Headroom}
use Rattle.ds_checker.specs.declared.load.Loads.{Loads}

-- ---- at a meter
growth : (one one' two two' : Headroom) → one ≡ one' → two ≡ two' → ◌≡◌ {A = Growth} (record { one = one; two = two }) (record { one = one'; two = two' })
growth one one' two two' ones twos =
    ap (λ h. let g : Growth = record { one = h; two = two } in g) ones ∙ ap (λ h. let g : Growth = record { one = one'; two = h } in g) twos

pub growth-told : (found : Option (List ℕ × Meter)) (entry : List ℕ × Meter) (l one two : Loads) (s : Share) (first second : Headroom) → Some entry ≡ found
    → one ≡ with_share l s → two ≡ with_share one s → first ≡ headroom_in entry.1 one → second ≡ headroom_in entry.1 two
    → ◌≡◌ {A = Growth} (record { one = first; two = second }) (growth_by found l s)
growth-told found entry l one two s first second is is_one is_two firsts seconds =
    growth first (headroom_in entry.1 (with_share l s)) second (headroom_in entry.1 (with_share (with_share l s) s))
    (firsts ∙ ap (headroom_in entry.1) is_one) (seconds ∙ ap (headroom_in entry.1) (is_two ∙ ap (λ x. with_share x s) is_one))
    ∙ ap (λ o. growth_by o l s) is

-- ---- leg by leg
pub growth-hop : (meters : List (List ℕ × Meter)) (source : Source) (peaked : Bool) (xs legs : List Leg) (leg : Leg) (zs sums : List Loads) (l : Loads) (ys bounds : List Bound) (b : Bound)
    (g : Growth) (done whole : List Growth) → xs ≡ leg ∷ legs → zs ≡ l ∷ sums → ys ≡ b ∷ bounds → g ≡ growth_by (slice_get meters leg.place) l (share_with source peaked b)
    → done ++ growths_on meters source peaked xs zs ys ≡ whole → done ++ g ∷ [] ++ growths_on meters source peaked legs sums bounds ≡ whole
unfolding growths_on
growth-hop meters source peaked xs legs leg zs sums l ys bounds b g done whole is_legs is_sums is_bounds is_growth held =
    append_assoc done (g ∷ []) (growths_on meters source peaked legs sums bounds)
    ∙ ap (λ x. done ++ (x ∷ growths_on meters source peaked legs sums bounds)) is_growth
    ∙ sym (ap (λ list. done ++ growths_on meters source peaked list zs ys) is_legs ∙ ap (λ list. done ++ growths_on meters source peaked (leg ∷ legs) list ys) is_sums
    ∙ ap (λ list. done ++ growths_on meters source peaked (leg ∷ legs) (l ∷ sums) list) is_bounds)
    ∙ held

pub growths-ended : (meters : List (List ℕ × Meter)) (source : Source) (peaked : Bool) (zs : List Loads) (ys : List Bound) → growths_on meters source peaked [] zs ys ≡ []
unfolding growths_on
growths-ended meters source peaked zs ys = refl

-- one more of the places that hold nothing yet is taken
pub filler-next : (xs : List Growth) (i : ℕ) (g : Growth) → i < 16 → drop i xs ≡ replicate (16 - i) no_growth → drop (i + 1) (set xs i g) ≡ replicate (16 - (i + 1)) no_growth
filler-next xs i g inside is =
    let left : 16 - i ≡ suc (16 - (i + 1)) = omega (arith, inside) in
    drop-set-lt (i + 1) xs i g (omega arith) ∙ sym (drop-drop 1 i xs) ∙ ap (drop 1) is ∙ ap (λ n. drop 1 (replicate n no_growth)) left

-- the places are 16
pub filler-long : (xs : List Growth) (i : ℕ) → i < 16 → drop i xs ≡ replicate (16 - i) no_growth → i < length xs
filler-long xs i inside is = omega (arith, inside, length-drop i xs, ap length is, length-replicate (16 - i) no_growth)

pub growths-whole : (xs found whole : List Growth) (i n : ℕ) → i ≡ n → take i xs ++ found ≡ whole → found ≡ [] → drop i xs ≡ replicate (16 - i) no_growth
    → xs ≡ whole ++ replicate (16 - n) no_growth
growths-whole xs found whole i n same held none is =
    sym (take-append-drop i xs) ∙ ap (λ list. list ++ drop i xs) (sym (append-nil (take i xs)) ∙ ap (λ list. take i xs ++ list) (sym none) ∙ held)
    ∙ ap (λ list. whole ++ list) (is ∙ ap (λ m. replicate (16 - m) no_growth) same)

-- ---- a contract beside a table
same_growths : (meters other : List (List ℕ × Meter)) (source more : Source) (peaked peaks : Bool) (legs way : List Leg) (sums loads : List Loads) → meters ≡ other → source ≡ more
    → peaked ≡ peaks → legs ≡ way → sums ≡ loads → growths_along meters source peaked legs sums ≡ growths_along other more peaks way loads
same_growths meters other source more peaked peaks legs way sums loads a b c d e =
    ap (λ x. growths_along x source peaked legs sums) a ∙ ap (λ x. growths_along other x peaked legs sums) b ∙ ap (λ x. growths_along other more x legs sums) c
    ∙ ap (λ x. growths_along other more peaks x sums) d ∙ ap (growths_along other more peaks way) e

at_rest : (t : Table) (left_out : Option ℕ) (c : Contract) (route : Route) (own sums : List Loads) (legs : List Leg) (d : Domain) (source : Source) (peaked : Bool)
    → IsBeside t left_out c route own → d ≡ t.domain → sums ≡ own → legs ≡ route.legs → source ≡ source_on d route c.terms → peaked ≡ has_peak c.terms
    → growths_along d.meters source peaked legs sums ≡ growths_of (record { table = rest_of t left_out; contract = c })
at_rest t None c route own sums legs d source peaked beside is_domain is_sums is_legs is_source is_peaked =
    same_growths d.meters t.domain.meters source _ peaked _ legs _ sums _ (ap (λ (x : Domain). x.meters) is_domain)
    (is_source ∙ ap (λ (x : Domain). source_on x route c.terms) is_domain ∙ ap (λ r. source_on t.domain r c.terms) beside.is_route) is_peaked
    (is_legs ∙ ap (λ (r : Route). r.legs) beside.is_route)
    (is_sums ∙ beside.is_sums ∙ ap (λ (r : Route). sums_on r.legs (loads_of t)) beside.is_route)
at_rest t (Some i) c route own sums legs d source peaked beside is_domain is_sums is_legs is_source is_peaked =
    same_growths d.meters t.domain.meters source _ peaked _ legs _ sums _ (ap (λ (x : Domain). x.meters) is_domain)
    (is_source ∙ ap (λ (x : Domain). source_on x route c.terms) is_domain ∙ ap (λ r. source_on t.domain r c.terms) beside.is_route) is_peaked
    (is_legs ∙ ap (λ (r : Route). r.legs) beside.is_route)
    (is_sums ∙ beside.is_sums ∙ ap (λ (r : Route). sums_on r.legs (loads_of (rest_of t (Some i)))) beside.is_route)

pub beside-growths : (t : Table) (left_out : Option ℕ) (c : Contract) (route : Route) (own sums : List Loads) (legs : List Leg) (d : Domain) (offer : Offer) (source : Source) (peaked : Bool)
    → ◌≡◌ {A = Offer} (record { table = rest_of t left_out; contract = c }) offer → IsBeside t left_out c route own → d ≡ t.domain → sums ≡ own → legs ≡ route.legs
    → source ≡ source_on d route c.terms → peaked ≡ has_peak c.terms → growths_along d.meters source peaked legs sums ≡ growths_of offer
beside-growths t left_out c route own sums legs d offer source peaked is_offer beside is_domain is_sums is_legs is_source is_peaked =
    at_rest t left_out c route own sums legs d source peaked beside is_domain is_sums is_legs is_source is_peaked ∙ ap growths_of is_offer

offered_at : (t : Table) (left_out : Option ℕ) (c : Contract) (route : Route) (own : List Loads) (d : Domain) (source : Source)
    → IsBeside t left_out c route own → IsRoute route → d ≡ t.domain → IsDistinct bytes_eq (keys_of d.meters) → source ≡ source_on d route c.terms → 1 ≤ source.green.rate
    → IsOffered (record { table = rest_of t left_out; contract = c })
offered_at t None c route own d source beside kept is_domain distinct is_source least = record {
  acceptable = beside.sound.acceptable;
  fit = beside.fit;
  route = subst IsRoute beside.is_route kept;
  least = subst (λ (s : Source). 1 ≤ s.green.rate) (is_source ∙ ap (λ (x : Domain). source_on x route c.terms) is_domain ∙ ap (λ r. source_on t.domain r c.terms) beside.is_route) least;
  apart = subst (λ (x : Domain). IsDistinct bytes_eq (keys_of x.meters)) is_domain distinct;
}
offered_at t (Some i) c route own d source beside kept is_domain distinct is_source least = record {
  acceptable = beside.sound.acceptable;
  fit = beside.fit;
  route = subst IsRoute beside.is_route kept;
  least = subst (λ (s : Source). 1 ≤ s.green.rate) (is_source ∙ ap (λ (x : Domain). source_on x route c.terms) is_domain ∙ ap (λ r. source_on t.domain r c.terms) beside.is_route) least;
  apart = subst (λ (x : Domain). IsDistinct bytes_eq (keys_of x.meters)) is_domain distinct;
}

pub beside-offered : (t : Table) (left_out : Option ℕ) (c : Contract) (route : Route) (own : List Loads) (d : Domain) (offer : Offer) (source : Source)
    → ◌≡◌ {A = Offer} (record { table = rest_of t left_out; contract = c }) offer → IsBeside t left_out c route own → IsRoute route → d ≡ t.domain
    → IsDistinct bytes_eq (keys_of d.meters) → source ≡ source_on d route c.terms → 1 ≤ source.green.rate → IsOffered offer
beside-offered t left_out c route own d offer source is_offer beside kept is_domain distinct is_source least =
    subst IsOffered is_offer (offered_at t left_out c route own d source beside kept is_domain distinct is_source least)
