-- What is known of a contract of a covered timeline: where it is found, that it is acceptable while its share is
-- reserved, and that its share is held until its rate has paid for its burst.
use Rattle.std.proofs.Common.{◌≡◌, ◌≤◌, ◌<◌, ◌+◌, ◌-◌, ◌*◌, ℕ, zero, suc, Bool, true, false, cond, List, [], ◌∷◌, map, get_or, Option, None, Some, refl, sym, ap, subst, ◌∙◌, arith, ◌&&◌, All, AllPairs, drop, filter, find, nat_eq, nat_le, not, option_map, slice_get}
use Rattle.std.specs.List.{AllZip}
use Rattle.std.specs.Option.{ForSome, IsSomeAnd}
use Rattle.std.proofs.lemmas.Bool.{false≢true}
use Rattle.std.proofs.lemmas.Bool.Decides.{nat_tests}
use Rattle.std.proofs.lemmas.List.Elements.{All-head, All-tail}
use Rattle.std.proofs.lemmas.Option.{none-some, same_Some, slice_get-map}
use Rattle.moment_core.specs.Volume.{bytes_over}
use Rattle.moment_core.specs.declared.column.Column.{Column}
use Rattle.envelope_core.proofs.Reserved.{bytes_given}
use Rattle.ds_domain_base.specs.Domains.{Domain, meter_of}
use Rattle.ds_domain_base.specs.declared.contract.Contract.{Contract}
use Rattle.ds_domain_base.specs.declared.parts.Meter.{Meter}
use Rattle.ds_certificate.specs.Bounds.{HasShape, Meets}
use Rattle.ds_certificate.specs.Columns.{Bound, bytes_in, envelope_in}
use Rattle.ds_certificate.specs.Sources.{source_of}
use Rattle.ds_certificate.proofs.ColumnLaws.{in_column}
use Rattle.ds_checker.specs.Acceptance.{IsAcceptable, Table}
use Rattle.ds_domain_base.specs.Routes.{meter_skew}
use Rattle.ds_checker.specs.Loads.{bound_into}
use Rattle.ds_checker.proofs.WayLaws.{hold-covers, held_for, way_to}
use Rattle.ds_timeline.specs.Constant.{reserved_from, timeline_of}
use Rattle.ds_timeline.specs.Kept.{IsNumbered}
use Rattle.ds_timeline.specs.Timelines.{AreRated, IsCovered, IsHeld, IsRated, Timeline, hold_in, is_by, is_reserved, reservation_of}
use Rattle.ds_timeline.specs.declared.reservation.Reservation.{Reservation}
use Rattle.ds_timeline.proofs.ConstantLaws.{all-constant, contracts-same}
use Rattle.ds_timeline.proofs.NumberedLaws.{numbered-found}

-- ---- where a contract is found

-- what holds of each holds of the one that is found
pub found-holds : {X : Type 0} (P : X → Type 0) (test : X → Bool) (xs : List X) (x : X) → All P xs → find test xs ≡ Some x → P x
found-holds P test [] x all found = absurd (none-some x found)
found-holds P test (y ∷ ys) x all found = by_test (test y) found (found-holds P test ys x (All-tail P y ys all))
  where
    by_test : (here : Bool) → cond here (Some y) (find test ys) ≡ Some x → (find test ys ≡ Some x → P x) → P x
    by_test true found onward = subst P (same_Some y x found) (All-head P y ys all)
    by_test false found onward = onward found

-- where flows differ, each is the one of its flow
pub found-own : (rs : List Reservation) → AllPairs (λ r s. ¬ (r.flow ≡ s.flow)) rs → All (λ r. find (λ s. nat_eq s.flow r.flow) rs ≡ Some r) rs
found-own [] apart k d h = absurd (omega (arith, h))
found-own (r ∷ rs) apart zero d h = let here : nat_eq r.flow r.flow ≡ true = grind (arith, nat_tests) in rw here refl
found-own (r ∷ rs) apart (suc k) d h =
    let differ : ¬ (r.flow ≡ (get_or rs k d).flow) = apart 0 (suc k) d (omega arith) h in
    let other : nat_eq r.flow (get_or rs k d).flow ≡ false = grind (arith, nat_tests, differ) in
    rw other (found-own rs (λ i j e less inside. apart (suc i) (suc j) e (omega (arith, less)) (omega (arith, inside))) k d (omega (arith, h)))

-- ---- while its share is reserved

pub is_reserved-at : (r : Reservation) (moment : ℕ) → r.from ≤ moment → ForSome r.retirement (λ end. moment < end) → is_reserved r moment ≡ true
is_reserved-at r moment begun before = by_end r.retirement before
  where
    by_end : (known : Option ℕ) → ForSome known (λ end. moment < end) → (nat_le r.from moment && not (is_by moment known)) ≡ true
    by_end None before = grind (arith, nat_tests, begun)
    by_end (Some end) before = let early = before end refl in grind (arith, nat_tests, begun, early)

-- what is not reserved from its first moment on was retired by then
pub record WasRetired (r : Reservation) (moment : ℕ) : Type 0 where
  pub retirement : ℕ
  pub is : r.retirement ≡ Some retirement
  pub early : retirement ≤ moment

pub never-reserved : (r : Reservation) → is_reserved r r.from ≡ false → WasRetired r r.from
never-reserved r free = by_end r.retirement refl free
  where
    by_end : (known : Option ℕ) → r.retirement ≡ known → (nat_le r.from r.from && not (is_by r.from known)) ≡ false → WasRetired r r.from
    by_end None is free = let first : nat_le r.from r.from ≡ true = grind (arith, nat_tests) in absurd (false≢true (sym free ∙ ap (λ b. b && true) first))
    by_end (Some end) is free = record { retirement = end; is = is; early = grind (arith, nat_tests, free) }

-- what holds of two columns of what a test picks, pair by pair, holds of each that it picks
AllZip-picked : {X A B : Type 0} (R : A → B → Type 0) (f : X → A) (g : X → B) (test : X → Bool) (xs : List X)
    → AllZip R (map f (filter test xs)) (map g (filter test xs)) → All (λ x. test x ≡ true → R (f x) (g x)) xs
AllZip-picked R f g test [] all k e h = absurd (omega (arith, h))
AllZip-picked R f g test (x ∷ xs) all zero e h = λ passed. let whole : AllZip R (map f (x ∷ filter test xs)) (map g (x ∷ filter test xs)) = rw passed at all in whole.0
AllZip-picked R f g test (x ∷ xs) all (suc k) e h = AllZip-picked R f g test xs (rest (test x) all) k e (omega (arith, h))
  where
    rest : (t : Bool) → AllZip R (map f (cond t (x ∷ filter test xs) (filter test xs))) (map g (cond t (x ∷ filter test xs) (filter test xs)))
        → AllZip R (map f (filter test xs)) (map g (filter test xs))
    rest true every = every.1
    rest false every = every

-- at each moment what is reserved has the shape and the bounds of a certificate
pub shaped : (t : Timeline) → IsCovered t → (moment : ℕ)
    → All (λ r. is_reserved r moment ≡ true → HasShape t.domain r.contract r.bounds × Meets t.domain r.contract r.bounds) t.reservations
shaped t covered moment =
    AllZip-picked (λ c bounds. HasShape t.domain c bounds × Meets t.domain c bounds) (λ r. r.contract) (λ r. r.bounds) (λ r. is_reserved r moment) t.reservations
    (covered.acceptable moment).0

-- ---- until its burst is paid for

-- Its contract ended, and from the last moment on at which a meter may use a packet of it, until its retirement, its rate
-- gives a burst.
pub record IsHeldOver (d : Domain) (r : Reservation) (name : List ℕ) (skew rate burst retirement : ℕ) : Type 0 where
  pub until : ℕ
  pub ended : r.contract.lifetime.until ≡ Some until
  pub held : until + way_to d name r.contract.port r.contract.path + skew ≤ retirement
  pub paid : 8000000000 * burst ≤ rate * (retirement - (until + way_to d name r.contract.port r.contract.path + skew))

-- the value that there is
pub some-and : {X : Type 0} (P : X → Type 0) (o : Option X) → IsSomeAnd o P → (x : X) × (o ≡ Some x) × P x
some-and P None holds = absurd holds
some-and P (Some x) holds = (x, refl, holds)

pub held-over : (d : Domain) (r : Reservation) (name : List ℕ) (m : Meter) (column : Column) (bound : Bound) → IsHeld d r → IsRated d r
    → bound_into name r.contract.path (drop 1 r.bounds) ≡ Some bound
    → meter_of d name ≡ Some m
    → ForSome r.retirement (λ retirement.
    IsHeldOver d r name m.skew (envelope_in column (source_of d r.contract)).rate (bytes_in column bound + bytes_over (envelope_in column (source_of d r.contract)).rate m.skew) retirement)
held-over d r name m column bound held rated there is_meter retirement is =
    let source = source_of d r.contract in
    let rate = (envelope_in column source).rate in
    let way = way_to d name r.contract.port r.contract.path in
    let (until, ended, free) = some-and (λ until. until + hold_in d r ≤ retirement) r.contract.lifetime.until (held retirement is) in
    let covers : held_for source (0 + way) m.skew bound column ≤ hold_in d r =
    subst (λ o. held_for source (0 + way) (meter_skew o) bound column ≤ hold_in d r) is_meter (hold-covers d source column name r.contract.path (drop 1 r.bounds) 0 r.contract.port bound there)
    in
    record {
      until = until;
      ended = ended;
      held = omega (arith, free, covers);
      paid =
          bytes_given rate (bytes_in column bound + bytes_over rate m.skew) (retirement - (until + way + m.skew))
          (in_column (λ column. 1 ≤ (envelope_in column source).rate) (rated retirement is) column) (omega (arith, free, covers));
    }

-- ---- a table that is never changed

numbered-constant : (flow : ℕ) (contracts : List Contract) (rows : List (List Bound)) → IsNumbered flow (reserved_from flow contracts rows)
unfolding reserved_from IsNumbered
numbered-constant flow [] rows = tt
numbered-constant flow (c ∷ contracts) [] = tt
numbered-constant flow (c ∷ contracts) (bounds ∷ rows) = (refl, numbered-constant (suc flow) contracts rows)

-- the contract of a flow is the one at its place
pub granted-constant : (t : Table) → IsAcceptable t → (flow : ℕ) (c : Contract) → slice_get t.contracts flow ≡ Some c
    → option_map (λ r. r.contract) (reservation_of (timeline_of t) flow) ≡ Some c
granted-constant t met flow c is =
    let rs = reserved_from 0 t.contracts t.certificate in
    let contract = λ (r : Reservation). r.contract in
    ap (option_map contract) (numbered-found flow rs (numbered-constant 0 t.contracts t.certificate)) ∙ sym (slice_get-map contract rs flow)
    ∙ ap (λ contracts. slice_get contracts flow)
    (contracts-same (λ c bounds. HasShape t.domain c bounds × Meets t.domain c bounds) 0 t.contracts t.certificate met.0) ∙ is

pub rated-constant : (t : Table) → AreRated (timeline_of t)
rated-constant t =
    all-constant (IsRated t.domain) 0 t.contracts t.certificate (λ number c bounds later moment some. absurd (none-some moment some))
