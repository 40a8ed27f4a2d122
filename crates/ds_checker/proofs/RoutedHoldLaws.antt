-- The hold of a contract, by its route.
use Rattle.std.proofs.Common.{◌≡◌, ℕ, ◌+◌, ◌⊎◌, List, [], ◌∷◌, ◌++◌, max, drop, refl, sym, ap, ◌∙◌}
use Rattle.std.proofs.Math.Nat.{max-zero}
use Rattle.ds_domain_base.specs.Domains.{Domain, meter_of}
use Rattle.ds_domain_base.specs.Routes.{Route, legs_along, meter_skew, route_of}
use Rattle.ds_domain_base.specs.declared.contract.Contract.{Contract}
use Rattle.ds_domain_base.specs.declared.route.Leg.{Leg}
use Rattle.ds_certificate.specs.Columns.{Bound}
use Rattle.ds_certificate.specs.Sources.{source_of, source_on}
use Rattle.ds_certificate.specs.declared.source.Source.{Source}
use Rattle.ds_certificate.proofs.RouteLaws.{source-route}
use Rattle.ds_checker.specs.Holds.{greatest, hold_of, holds_along, holds_at_hop, link_delay}
use Rattle.ds_checker.specs.Routed.{holds_on}
use Rattle.ds_checker.proofs.HoldLaws.{greatest-append, swap_max}
use Rattle.ds_checker.proofs.LoadLaws.{neither}

-- one leg more
pub hold-leg : (s : Source) (way delay later : ℕ) (xs legs : List Leg) (leg : Leg) (ys bounds : List Bound) (b : Bound) (hold skew own new whole : ℕ) → xs ≡ leg ∷ legs → ys ≡ b ∷ bounds
    → delay ≡ leg.floor + leg.jitter → later ≡ way + delay → skew ≡ leg.skew → own ≡ greatest (holds_at_hop s later skew b) → new ≡ max own hold
    → max hold (greatest (holds_on s way xs ys)) ≡ whole → max new (greatest (holds_on s later legs bounds)) ≡ whole
unfolding holds_on
hold-leg s way delay later xs legs leg ys bounds b hold skew own new whole is_legs is_bounds is_delay is_later is_skew is_own is_new kept =
    let is_way : later ≡ way + (leg.floor + leg.jitter) = is_later ∙ ap (λ n. way + n) is_delay in
    ap (λ n. max n (greatest (holds_on s later legs bounds))) (is_new ∙ ap (λ n. max n hold) (is_own ∙ ap (λ n. greatest (holds_at_hop s later n b)) is_skew))
    ∙ swap_max (greatest (holds_at_hop s later leg.skew b)) hold (greatest (holds_on s later legs bounds))
    ∙ ap (max hold) (sym (greatest-append (holds_at_hop s later leg.skew b) (holds_on s later legs bounds)))
    ∙ ap (λ n. max hold (greatest (holds_at_hop s n leg.skew b ++ holds_on s n legs bounds))) is_way
    ∙ sym (ap (λ p. max hold (greatest (holds_on s way p ys))) is_legs ∙ ap (λ p. max hold (greatest (holds_on s way (leg ∷ legs) p))) is_bounds)
    ∙ kept

pub hold-ended : (s : Source) (way : ℕ) (xs : List Leg) (ys : List Bound) (hold whole : ℕ) → (xs ≡ []) ⊎ (ys ≡ [])
    → max hold (greatest (holds_on s way xs ys)) ≡ whole → hold ≡ whole
unfolding holds_on greatest
hold-ended s way [] ys hold whole ended kept = sym (max-zero hold) ∙ kept
hold-ended s way (leg ∷ xs) [] hold whole ended kept = sym (max-zero hold) ∙ kept
hold-ended s way (leg ∷ xs) (b ∷ ys) hold whole ended kept = neither ended

-- by places as by names
holds-legs : (d : Domain) (s : Source) (way : ℕ) (from : List ℕ) (path : List (List ℕ)) (bounds : List Bound)
    → holds_on s way (legs_along d from path) bounds ≡ holds_along d s way from path bounds
unfolding holds_on holds_along legs_along
holds-legs d s way from [] bounds = refl
holds-legs d s way from (to ∷ path) [] = refl
holds-legs d s way from (to ∷ path) (b ∷ bounds) =
    ap (λ rest. holds_at_hop s (way + link_delay d from to) (meter_skew (meter_of d to)) b ++ rest) (holds-legs d s (way + link_delay d from to) to path bounds)

pub hold-route : (d : Domain) (c : Contract) (route : Route) (source : Source) (legs : List Leg) (row behind : List Bound) → route ≡ route_of d c
    → source ≡ source_on d route c.terms → legs ≡ route.legs → behind ≡ drop 1 row → greatest (holds_on source 0 legs behind) ≡ hold_of d c row
hold-route d c route source legs row behind is is_source is_legs is_behind =
    ap (λ s. greatest (holds_on s 0 legs behind)) (is_source ∙ source-route d c route is)
    ∙ ap (λ list. greatest (holds_on (source_of d c) 0 list behind)) (is_legs ∙ ap (λ r. r.legs) is)
    ∙ ap (λ b. greatest (holds_on (source_of d c) 0 (legs_along d c.port c.path) b)) is_behind
    ∙ ap greatest (holds-legs d (source_of d c) 0 c.port c.path (drop 1 row))
