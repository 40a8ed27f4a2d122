-- How long a packet is under way to a meter, which the hold of its contract covers.
use Rattle.std.proofs.Common.{arith, ◌≡◌, ℕ, ◌+◌, ◌≤◌, Bool, true, false, List, [], ◌∷◌, max, refl, sym, subst, Some, if◌then◌else◌, bytes_eq}
use Rattle.std.proofs.Math.Nat.{le-max_left, le-max_right}
use Rattle.std.proofs.lemmas.Option.{none-some, same_Some}
use Rattle.std.proofs.lemmas.Slice.Eq.{bytes_eq-Decides}
use Rattle.moment_core.specs.declared.column.Column.{Column}
use Rattle.moment_core.specs.declared.column.Column.TheVariants.{Green, All, Excess}
use Rattle.ds_domain_base.specs.Domains.{Domain, meter_of}
use Rattle.ds_certificate.specs.Columns.{Bound, bytes_in, envelope_in}
use Rattle.ds_certificate.specs.declared.source.Source.{Source}
use Rattle.ds_domain_base.specs.Routes.{meter_skew}
use Rattle.ds_checker.specs.Holds.{greatest, hold_behind, holds_along, holds_at_hop, link_delay}
use Rattle.ds_checker.specs.Loads.{bound_into}
use Rattle.ds_checker.proofs.HoldLaws.{along-next}

-- the longest that a packet is under way from a name along a path, to the first meter of a name or else to the end
unfoldable pub way_to : Domain → List ℕ → List ℕ → List (List ℕ) → ℕ
way_to d name from [] = 0
way_to d name from (to ∷ path) = link_delay d from to + (if bytes_eq name to then 0 else way_to d name to path)

-- what is held for a column at a hop, as the greatest of all columns
abbrev pub held_for : Source → ℕ → ℕ → Bound → Column → ℕ
held_for s way skew bound column = hold_behind way skew (record { rate = (envelope_in column s).rate; burst = bytes_in column bound })

held_in : (column : Column) (s : Source) (way skew : ℕ) (bound : Bound)
    → held_for s way skew bound column ≤ greatest (holds_at_hop s way skew bound)
unfolding greatest
held_in Green s way skew bound = first (held_for s way skew bound Green) (held_for s way skew bound All) (held_for s way skew bound Excess)
  where
    first : (a b c : ℕ) → a ≤ max a (max b (max c 0))
    first a b c = grind arith
held_in All s way skew bound = second (held_for s way skew bound Green) (held_for s way skew bound All) (held_for s way skew bound Excess)
  where
    second : (a b c : ℕ) → b ≤ max a (max b (max c 0))
    second a b c = grind arith
held_in Excess s way skew bound = third (held_for s way skew bound Green) (held_for s way skew bound All) (held_for s way skew bound Excess)
  where
    third : (a b c : ℕ) → c ≤ max a (max b (max c 0))
    third a b c = grind arith

-- A hold is as long as the way to a meter of the path, the meter's skew, and the time in which the rate gives the burst
-- that is widened by the skew.
pub hold-covers : (d : Domain) (s : Source) (column : Column) (name : List ℕ) (path : List (List ℕ)) (bounds : List Bound) (way : ℕ) (from : List ℕ) (bound : Bound)
    → bound_into name path bounds ≡ Some bound
    → held_for s (way + way_to d name from path) (meter_skew (meter_of d name)) bound column ≤ greatest (holds_along d s way from path bounds)
unfolding bound_into way_to
hold-covers d s column name [] bounds way from bound there = absurd (none-some bound there)
hold-covers d s column name (to ∷ path) [] way from bound there = absurd (none-some bound there)
hold-covers d s column name (to ∷ path) (b ∷ bounds) way from bound there =
    by_name (bytes_eq name to) refl there (λ found. hold-covers d s column name path bounds (way + link_delay d from to) to bound found)
  where
    most : greatest (holds_along d s way from (to ∷ path) (b ∷ bounds))
        ≡ max (greatest (holds_at_hop s (way + link_delay d from to) (meter_skew (meter_of d to)) b)) (greatest (holds_along d s (way + link_delay d from to) to path bounds))
    most = along-next d s way from to path b bounds

    by_name : (same : Bool) → bytes_eq name to ≡ same → (if same then Some b else bound_into name path bounds) ≡ Some bound
        → (bound_into name path bounds ≡ Some bound
        → held_for s (way + link_delay d from to + way_to d name to path) (meter_skew (meter_of d name)) bound column ≤ greatest (holds_along d s (way + link_delay d from to) to path bounds))
        → held_for s (way + (link_delay d from to + (if same then 0 else way_to d name to path))) (meter_skew (meter_of d name)) bound column
        ≤ greatest (holds_along d s way from (to ∷ path) (b ∷ bounds))
    by_name true same found onward =
        let own : bound ≡ b = sym (same_Some b bound found) in
        let named : to ≡ name = sym ((bytes_eq-Decides name to).0 same) in
        let at_hop : held_for s (way + link_delay d from to) (meter_skew (meter_of d name)) bound column
        ≤ greatest (holds_at_hop s (way + link_delay d from to) (meter_skew (meter_of d to)) b) =
        subst (λ x. held_for s (way + link_delay d from to) (meter_skew (meter_of d name)) bound column ≤ greatest (holds_at_hop s (way + link_delay d from to) (meter_skew (meter_of d to)) x)) own
        (subst (λ x. held_for s (way + link_delay d from to) (meter_skew (meter_of d name)) bound column ≤ greatest (holds_at_hop s (way + link_delay d from to) (meter_skew (meter_of d x)) bound)) (sym named)
        (held_in column s (way + link_delay d from to) (meter_skew (meter_of d name)) bound))
        in
        omega (
          arith,
          most,
          at_hop,
          le-max_left (greatest (holds_at_hop s (way + link_delay d from to) (meter_skew (meter_of d to)) b)) (greatest (holds_along d s (way + link_delay d from to) to path bounds)),
        )
    by_name false other found onward =
        omega (
          arith,
          most,
          onward found,
          le-max_right (greatest (holds_at_hop s (way + link_delay d from to) (meter_skew (meter_of d to)) b)) (greatest (holds_along d s (way + link_delay d from to) to path bounds)),
        )
