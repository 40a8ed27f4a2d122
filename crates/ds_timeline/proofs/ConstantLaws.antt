-- An acceptable table that is never changed is covered.
use Rattle.std.proofs.Common.{◌≡◌, ◌≤◌, ℕ, suc, true, List, [], ◌∷◌, None, Some, refl, sym, ap, subst, ◌∙◌, arith, map, filter, nat_le, All, AllPairs}
use Rattle.std.specs.List.{AllByRecursion, AllZip}
use Rattle.std.proofs.lemmas.List.Elements.{All-from_recursion}
use Rattle.std.proofs.lemmas.List.Kept.{AllPairs-cons}
use Rattle.ds_domain_base.specs.Domains.{Domain}
use Rattle.ds_domain_base.specs.declared.contract.Contract.{Contract}
use Rattle.ds_certificate.specs.Bounds.{HasShape, Meets}
use Rattle.ds_certificate.specs.Columns.{Bound}
use Rattle.ds_checker.specs.Acceptance.{IsAcceptable, Table}
use Rattle.ds_timeline.specs.Constant.{reserved_from, timeline_of}
use Rattle.ds_timeline.specs.Timelines.{IsCovered, IsHeld, is_reserved, table_at}
use Rattle.ds_timeline.specs.declared.reservation.Reservation.{Reservation}

abbrev constant : ℕ → Contract → List Bound → Reservation
constant flow c bounds = record { flow = flow; contract = c; bounds = bounds; from = 0; retirement = None }

first-least : (moment : ℕ) → nat_le 0 moment ≡ true
first-least moment = grind arith

-- all are reserved at any moment
all-reserved : (flow : ℕ) (contracts : List Contract) (rows : List (List Bound)) (moment : ℕ)
    → filter (λ r. is_reserved r moment) (reserved_from flow contracts rows) ≡ reserved_from flow contracts rows
unfolding reserved_from
all-reserved flow [] rows moment = refl
all-reserved flow (c ∷ contracts) [] moment = refl
all-reserved flow (c ∷ contracts) (bounds ∷ rows) moment =
    rw (first-least moment) (ap (λ rest. constant flow c bounds ∷ rest) (all-reserved (suc flow) contracts rows moment))

pub contracts-same : (R : Contract → List Bound → Type 0) (flow : ℕ) (contracts : List Contract) (rows : List (List Bound)) → AllZip R contracts rows
    → map (λ r. r.contract) (reserved_from flow contracts rows) ≡ contracts
unfolding reserved_from
contracts-same R flow [] [] each = refl
contracts-same R flow [] (bounds ∷ rows) each = absurd each
contracts-same R flow (c ∷ contracts) [] each = absurd each
contracts-same R flow (c ∷ contracts) (bounds ∷ rows) each = ap (λ rest. c ∷ rest) (contracts-same R (suc flow) contracts rows each.1)

pub bounds-same : (R : Contract → List Bound → Type 0) (flow : ℕ) (contracts : List Contract) (rows : List (List Bound)) → AllZip R contracts rows
    → map (λ r. r.bounds) (reserved_from flow contracts rows) ≡ rows
unfolding reserved_from
bounds-same R flow [] [] each = refl
bounds-same R flow [] (bounds ∷ rows) each = absurd each
bounds-same R flow (c ∷ contracts) [] each = absurd each
bounds-same R flow (c ∷ contracts) (bounds ∷ rows) each = ap (λ rest. bounds ∷ rest) (bounds-same R (suc flow) contracts rows each.1)

-- the table of each moment is the table
pub constant-table : (t : Table) (moment : ℕ) → IsAcceptable t → table_at (timeline_of t) moment ≡ t
constant-table t moment met =
    let R : Contract → List Bound → Type 0 = λ c bounds. HasShape t.domain c bounds × Meets t.domain c bounds in
    ap (λ rs. record { domain = t.domain; contracts = map (λ r. r.contract) rs; certificate = map (λ r. r.bounds) rs }) (all-reserved 0 t.contracts t.certificate moment)
    ∙ ap (λ contracts. record { domain = t.domain; contracts = contracts; certificate = map (λ r. r.bounds) (reserved_from 0 t.contracts t.certificate) })
    (contracts-same R 0 t.contracts t.certificate met.0)
    ∙ ap (λ rows. record { domain = t.domain; contracts = t.contracts; certificate = rows }) (bounds-same R 0 t.contracts t.certificate met.0)

-- what holds of each that is reserved from the first moment on and never retired
each-constant : (P : Reservation → Type 0) (flow : ℕ) (contracts : List Contract) (rows : List (List Bound))
    → ((number : ℕ) (c : Contract) (bounds : List Bound) → flow ≤ number → P (constant number c bounds))
    → AllByRecursion P (reserved_from flow contracts rows)
unfolding reserved_from
each-constant P flow [] rows holds = tt
each-constant P flow (c ∷ contracts) [] holds = tt
each-constant P flow (c ∷ contracts) (bounds ∷ rows) holds =
    (holds flow c bounds (omega arith), each-constant P (suc flow) contracts rows (λ number d more later. holds number d more (omega (arith, later))))

pub all-constant : (P : Reservation → Type 0) (flow : ℕ) (contracts : List Contract) (rows : List (List Bound))
    → ((number : ℕ) (c : Contract) (bounds : List Bound) → flow ≤ number → P (constant number c bounds))
    → All P (reserved_from flow contracts rows)
all-constant P flow contracts rows holds = All-from_recursion P (reserved_from flow contracts rows) (each-constant P flow contracts rows holds)

apart : (flow : ℕ) (contracts : List Contract) (rows : List (List Bound)) → AllPairs (λ r s. ¬ (r.flow ≡ s.flow)) (reserved_from flow contracts rows)
unfolding reserved_from
apart flow [] rows = λ i j d less inside. absurd (omega (arith, less, inside))
apart flow (c ∷ contracts) [] = λ i j d less inside. absurd (omega (arith, less, inside))
apart flow (c ∷ contracts) (bounds ∷ rows) =
    AllPairs-cons (λ r s. ¬ (r.flow ≡ s.flow)) (constant flow c bounds) (reserved_from (suc flow) contracts rows)
    (all-constant (λ s. ¬ (flow ≡ s.flow)) (suc flow) contracts rows (λ number d more later same. omega (arith, later, same)))
    (apart (suc flow) contracts rows)

never-retired : (d : Domain) (number : ℕ) (c : Contract) (bounds : List Bound) → IsHeld d (constant number c bounds)
never-retired d number c bounds moment some = absurd (none-some moment some)
  where
    none-some : (moment : ℕ) → None ≡ Some moment → ⊥
    none-some moment some = cc

pub covered-constant : (t : Table) → IsAcceptable t → IsCovered (timeline_of t)
covered-constant t met = record {
  apart = apart 0 t.contracts t.certificate;
  begun = all-constant (λ r. r.from ≤ r.contract.lifetime.since) 0 t.contracts t.certificate (λ number c bounds later. omega arith);
  held = all-constant (IsHeld t.domain) 0 t.contracts t.certificate (λ number c bounds later. never-retired t.domain number c bounds);
  acceptable = λ moment. subst IsAcceptable (sym (constant-table t moment met)) met;
}
