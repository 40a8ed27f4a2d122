-- Trails, hop by hop.
use Rattle.std.proofs.Common.{◌≡◌, ℕ, ◌+◌, ◌-◌, ◌<◌, ◌≤◌, zero, suc, List, [], ◌∷◌, ◌++◌, length, drop, get_or, refl, sym, ◌∙◌, ap, arith, Some, None, option_map, position, slice_get, unwrap_or, Option, bytes_eq}
use Rattle.std.specs.Map.{keys_of}
use Rattle.std.proofs.lemmas.List.Quantifiers.{position-Some}
use Rattle.std.proofs.lemmas.Map.Entries.{length-keys_of}
use Rattle.std.proofs.lemmas.List.{drop_all, drop_more, length-drop}
use Rattle.std.proofs.lemmas.Option.{get_or_from_slice_get, slice_get_within}
use Rattle.moment_core.specs.declared.colour.Colour.{Colour}
use Rattle.ds_domain_base.specs.Domains.{Domain}
use Rattle.ds_domain_base.specs.Routes.{AreInside, legs_along}
use Rattle.ds_domain_base.specs.declared.contract.Contract.{Contract}
use Rattle.ds_domain_base.specs.declared.route.Leg.{Leg}
use Rattle.meter_fabric_base.proofs.TrailLaws.{IsTrail-none}
use Rattle.meter_fabric_base.specs.Sites.{edge_hops, hops_along, hops_of, site_of}
use Rattle.meter_fabric_base.specs.Trails.{IsReceipt, IsTrail, Packet}
use Rattle.meter_fabric_base.specs.declared.hop.Hop.{Hop}
use Rattle.meter_fabric_base.specs.declared.trail.Receipt.{Receipt}
use Rattle.run_audit.specs.Hops.{hops_on}

-- ---- the hops of legs, one by one

hop_on : (number place : ℕ) (legs : List Leg) → slice_get (hops_on number legs) place ≡ option_map (λ (leg : Leg). record { number = place + number; site = leg.place }) (slice_get legs place)
unfolding hops_on
hop_on number place [] = refl
hop_on number zero (leg ∷ legs) = let same : number ≡ 0 + number = omega arith in ap (λ n. Some (record { number = n; site = leg.place })) same
hop_on number (suc place) (leg ∷ legs) =
    let same : place + suc number ≡ suc place + number = omega arith in
    hop_on (suc number) place legs ∙ ap (λ n. option_map (λ (leg : Leg). record { number = n; site = leg.place }) (slice_get legs place)) same

pub leg_hop_at : (legs : List Leg) (place : ℕ) (leg : Leg) → slice_get legs place ≡ Some leg → slice_get (hops_on 1 legs) place ≡ Some (record { number = place + 1; site = leg.place })
leg_hop_at legs place leg is = hop_on 1 place legs ∙ ap (option_map (λ (leg : Leg). record { number = place + 1; site = leg.place })) is

pub no_hop_at : (legs : List Leg) (place : ℕ) → slice_get legs place ≡ None → slice_get (hops_on 1 legs) place ≡ None
no_hop_at legs place none = hop_on 1 place legs ∙ ap (option_map (λ (leg : Leg). record { number = place + 1; site = leg.place })) none

-- those of the legs of a path are those of the path
pub hops_on-legs : (d : Domain) (number : ℕ) (from : List ℕ) (path : List (List ℕ)) → hops_on number (legs_along d from path) ≡ hops_along d number path
unfolding hops_on legs_along hops_along
hops_on-legs d number from [] = refl
hops_on-legs d number from (to ∷ path) = ap (λ hops. record { number = number; site = site_of d to } ∷ hops) (hops_on-legs d (suc number) to path)

-- those over an edge, if there is one, and on the legs of a contract's route are those of its way
pub way_is : (d : Domain) (flow : ℕ) (c : Contract) (edge : List Hop) (legs : List Leg) → edge ≡ edge_hops d flow c.terms → legs ≡ legs_along d c.port c.path
    → edge ++ hops_on 1 legs ≡ hops_of d flow c
way_is d flow c edge legs is_edge is_legs =
    ap (λ front. front ++ hops_on 1 legs) is_edge ∙ ap (λ back. edge_hops d flow c.terms ++ hops_on 1 back) is_legs ∙ ap (λ back. edge_hops d flow c.terms ++ back) (hops_on-legs d 1 c.port c.path)

-- the number of a site fits
pub legs_inside : (d : Domain) (from : List ℕ) (path : List (List ℕ)) → length d.meters ≤ 1024 → AreInside 4294967296 (legs_along d from path)
unfolding legs_along
legs_inside d from [] few = tt
legs_inside d from (to ∷ path) few = (by_place (position (bytes_eq to) (keys_of d.meters)) refl, legs_inside d to path few)
  where
    by_place : (at : Option ℕ) → position (bytes_eq to) (keys_of d.meters) ≡ at → unwrap_or at 0 < 4294967296
    by_place None at = omega arith
    by_place (Some place) at = omega (arith, (position-Some (bytes_eq to) (keys_of d.meters) place [] at).0, length-keys_of d.meters, few)

drop_at : {X : Type 0} (xs : List X) (i : ℕ) (x : X) → slice_get xs i ≡ Some x → drop i xs ≡ x ∷ drop (i + 1) xs
drop_at xs i x is = drop_more xs i x (slice_get_within xs i x is) ∙ ap (λ y. y ∷ drop (i + 1) xs) (get_or_from_slice_get xs i x x is)

drop_beyond : {X : Type 0} (xs : List X) (i : ℕ) → slice_get xs i ≡ None → drop i xs ≡ []
drop_beyond [] zero none = refl
drop_beyond [] (suc i) none = refl
drop_beyond (x ∷ xs) zero none = absurd cc
drop_beyond (x ∷ xs) (suc i) none = drop_beyond xs i none

-- what is left of a trail
abbrev pub IsLeft : Packet → ℕ → Colour → List Hop → List Receipt → ℕ → Type 0
IsLeft p since came hops receipts i = IsTrail p since came (drop i hops) (drop i receipts)

pub IsLeft-ended : (p : Packet) (since : ℕ) (came : Colour) (hops : List Hop) (receipts : List Receipt) (i : ℕ) → length receipts ≤ i → IsLeft p since came hops receipts i
IsLeft-ended p since came hops receipts i ended = rw (drop_all i receipts ended) (IsTrail-none p since came (drop i hops))

pub IsLeft-none : (p : Packet) (since : ℕ) (came : Colour) (hops : List Hop) (receipts : List Receipt) (i : ℕ) → i < length receipts → slice_get hops i ≡ None
    → ¬ IsLeft p since came hops receipts i
unfolding IsTrail
IsLeft-none p since came hops receipts i inside none left = by_receipts (drop i receipts) refl (rw (drop_beyond hops i none) at left)
  where
    by_receipts : (rest : List Receipt) → drop i receipts ≡ rest → ¬ IsTrail p since came [] rest
    by_receipts [] e trail = omega (arith, inside, ap length e, length-drop i receipts)
    by_receipts (r ∷ rest) e trail = trail

pub IsLeft-next : (p : Packet) (since : ℕ) (came : Colour) (hops : List Hop) (receipts : List Receipt) (i : ℕ) (hop : Hop) (r : Receipt)
    → i < length receipts → r ≡ get_or receipts i r → slice_get hops i ≡ Some hop
    → (IsLeft p since came hops receipts i → IsReceipt p since came hop r × IsLeft p r.row.arrival r.row.left hops receipts (i + 1))
    × (IsReceipt p since came hop r → IsLeft p r.row.arrival r.row.left hops receipts (i + 1) → IsLeft p since came hops receipts i)
unfolding IsTrail
IsLeft-next p since came hops receipts i hop r inside is next =
    let here : drop i receipts ≡ r ∷ drop (i + 1) receipts = drop_more receipts i r inside ∙ ap (λ x. x ∷ drop (i + 1) receipts) (sym is) in (
      λ left. let (own, rest) = rw (drop_at hops i hop next, here) at left in (own, rest),
      λ own rest. rw (drop_at hops i hop next, here) (own, rest),
    )

-- the hops behind an edge
pub hop_behind : (edge : Hop) (hops : List Hop) (place : ℕ) → ¬ (place ≡ 0) → slice_get (edge ∷ hops) place ≡ slice_get hops (place - 1)
hop_behind edge hops zero later = absurd (later refl)
hop_behind edge hops (suc place) later = let same : suc place - 1 ≡ place = omega arith in ap (slice_get hops) (sym same)
