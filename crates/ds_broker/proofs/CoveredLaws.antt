-- What was granted by commands against which nothing stood is covered.
use Rattle.std.proofs.Common.{◌≡◌, ◌≤◌, ◌<◌, ◌+◌, ◌^◌, ℕ, zero, suc, Bool, true, false, List, [], ◌∷◌, ◌++◌, Option, None, Some, refl, sym, ap, subst, ◌∙◌, arith, inl, inr, append_assoc, append-nil, IfSome, IsSomeAnd, filter, is_none, is_some, length, map, max, nat_eq, nat_le, nat_lt, not, unwrap_or, ◌&&◌, if◌then◌else◌}
use Rattle.std.specs.List.{AllByRecursion}
use Rattle.std.proofs.lemmas.Bool.{cases_Bool}
use Rattle.std.proofs.lemmas.List.{length-map}
use Rattle.std.proofs.lemmas.List.Elements.{All-from_recursion, All-weaker, filter-append}
use Rattle.std.proofs.lemmas.Option.{none-some, same_Some}
use Rattle.ds_domain_base.specs.Domains.{Domain}
use Rattle.ds_domain_base.specs.declared.contract.Contract.{Contract}
use Rattle.ds_certificate.specs.Bounds.{IsCertificate, least, least_of}
use Rattle.ds_certificate.specs.Columns.{Bound}
use Rattle.ds_certificate.specs.Sources.{source_of}
use Rattle.ds_checker.specs.Acceptance.{Carries, IsAcceptable, refusal_of}
use Rattle.ds_checker.specs.Holds.{hold_of}
use Rattle.ds_checker.specs.Loads.{share_of, shares_at}
use Rattle.ds_checker.proofs.AcceptanceLaws.{acceptable}
use Rattle.ds_checker.proofs.ChangeLaws.{acceptable-taken}
use Rattle.ds_timeline.specs.Kept.{IsTimeline}
use Rattle.ds_timeline.specs.Timelines.{IsCovered, IsFreeBy, IsHeld, IsRated, is_by, is_reserved, table_by}
use Rattle.ds_timeline.specs.declared.reservation.Reservation.{Reservation}
use Rattle.ds_timeline.proofs.NumberedLaws.{numbered-apart}
use Rattle.ds_broker.specs.Books.{Book, Limits, contracts_in, held_of, holding_of, moment_in, standing, table_in, table_of, with_command}
use Rattle.ds_broker.specs.Found.{IsFirst}
use Rattle.ds_broker.specs.Histories.{Holding, Standing, after, begun, end_by, with_retired}
use Rattle.ds_broker.specs.Refusals.{free_from, hold_left, refusal_in, refusal_or_checked, retire_refusal_at, room_refusal}
use Rattle.ds_broker.specs.Requests.{AreUnrefused}
use Rattle.ds_broker.specs.Timelines.{IsOfRates, Past, changed, ending_by, granted_as, id_of, past_after, past_of, retired_at, timeline_behind}
use Rattle.ds_broker.specs.declared.command.Command.{Command}
use Rattle.ds_broker.specs.declared.command.Command.TheVariants.{Reserve, Release, Retire}
use Rattle.ds_broker.specs.declared.refusal.BrokerRefusal.{BrokerRefusal}
use Rattle.ds_broker.specs.declared.refusal.BrokerRefusal.TheVariants.{Checker, HistoryFull, NotReleased}
use Rattle.ds_broker.proofs.HoldingLaws.{first-below, AllByRecursion-push}
use Rattle.ds_broker.proofs.PastLaws.{IsGiven, IsOnly, IsPast, IsTold, held-only, held_as, is_unretired, past-kept, past-next, past-push, holding-all}
use Rattle.ds_broker.proofs.RatedLaws.{rated-behind}
use Rattle.ds_broker.proofs.StandingLaws.{granted-most, standing-push}
use Rattle.ds_broker.proofs.TableLaws.{none-acceptable, table-retired, none-by}

-- those that are reserved at a moment
abbrev reserved : ℕ → List Reservation → List Reservation
reserved moment rs = filter (λ r. is_reserved r moment) rs

-- From the newest moment on, what is reserved is what is not retired.
by_now : (from moment newest : ℕ) (o : Option ℕ) → from ≤ newest → newest ≤ moment → IfSome o (λ earlier. earlier ≤ newest)
    → (nat_le from moment && not (is_by moment o)) ≡ is_none o
by_now from moment newest None early late retired = let here : nat_le from moment ≡ true = grind (arith, early, late) in rw here refl
by_now from moment newest (Some earlier) early late retired =
    let here : nat_le from moment ≡ true = grind (arith, early, late) in
    let gone : nat_le earlier moment ≡ true = grind (arith, retired, late) in
    rw (here, gone) refl

filter-same : {A : Type 0} (p q : A → Bool) (xs : List A) → AllByRecursion (λ x. p x ≡ q x) xs → filter p xs ≡ filter q xs
filter-same p q [] all = refl
filter-same p q (x ∷ xs) all = rw (all.0, filter-same p q xs all.1) refl

all-by_now : (moment newest : ℕ) (rs : List Reservation) → newest ≤ moment → AllByRecursion (IsTold newest) rs
    → AllByRecursion (λ r. is_reserved r moment ≡ is_unretired r) rs
all-by_now moment newest [] late told = tt
all-by_now moment newest (r ∷ rs) late told = (by_now r.from moment newest r.retirement told.0.early late told.0.retired, all-by_now moment newest rs late told.1)

contracts-held : (d : Domain) (held : List Holding) → map (λ r. r.contract) (map (held_as d) held) ≡ contracts_in held
contracts-held d [] = refl
contracts-held d (h ∷ held) = ap (λ rest. h.contract ∷ rest) (contracts-held d held)

bounds-held : (d : Domain) (held : List Holding) → map (λ r. r.bounds) (map (held_as d) held) ≡ least d (contracts_in held)
bounds-held d [] = refl
bounds-held d (h ∷ held) = ap (λ rest. least_of d h.contract ∷ rest) (bounds-held d held)

table-same : (d : Domain) (rs : List Reservation) (contracts : List Contract) (rows : List (List Bound)) → map (λ r. r.contract) rs ≡ contracts → map (λ r. r.bounds) rs ≡ rows
    → table_by d rs ≡ record { domain = d; contracts = contracts; certificate = rows }
table-same d rs contracts rows is_contracts is_rows =
    ap (λ list. record { domain = d; contracts = list; certificate = map (λ r. r.bounds) rs }) is_contracts
    ∙ ap (λ list. record { domain = d; contracts = contracts; certificate = list }) is_rows

table-held : (d : Domain) (held : List Holding) → table_by d (map (held_as d) held) ≡ table_in d held
table-held d held = table-same d (map (held_as d) held) (contracts_in held) (least d (contracts_in held)) (contracts-held d held) (bounds-held d held)

pub table-by_now : (d : Domain) (s : Standing) (p : Past) (moment : ℕ) → IsPast d s p → p.newest ≤ moment → table_by d (reserved moment p.granted) ≡ table_in d s.held
table-by_now d s p moment past late =
    ap (table_by d) (filter-same (λ r. is_reserved r moment) is_unretired p.granted (all-by_now moment p.newest p.granted late past.told) ∙ past.unretired)
    ∙ table-held d s.held

-- Acceptance does not look at ends.
certified-ending : (d : Domain) (id moment : ℕ) (rs : List Reservation) → IsCertificate d (map (λ r. r.contract) rs) (map (λ r. r.bounds) rs)
    → IsCertificate d (map (λ r. r.contract) (changed id (ending_by moment) rs)) (map (λ r. r.bounds) (changed id (ending_by moment) rs))
unfolding source_of
certified-ending d id moment [] met = met
certified-ending d id moment (r ∷ rs) met = elim (cases_Bool (nat_eq id (id_of r))) [
  | inl same ↦ rw same (met.0, certified-ending d id moment rs met.1)
  | inr other ↦ rw other (met.0, certified-ending d id moment rs met.1)
]

shares-ending : (d : Domain) (name : List ℕ) (id moment : ℕ) (rs : List Reservation)
    → shares_at d name (map (λ r. r.contract) (changed id (ending_by moment) rs)) (map (λ r. r.bounds) (changed id (ending_by moment) rs))
    ≡ shares_at d name (map (λ r. r.contract) rs) (map (λ r. r.bounds) rs)
unfolding shares_at source_of
shares-ending d name id moment [] = refl
shares-ending d name id moment (r ∷ rs) = elim (cases_Bool (nat_eq id (id_of r))) [
  | inl same ↦ rw same (ap (λ rest. share_of d name r.contract r.bounds ++ rest) (shares-ending d name id moment rs))
  | inr other ↦ rw other (ap (λ rest. share_of d name r.contract r.bounds ++ rest) (shares-ending d name id moment rs))
]

acceptable-ending : (d : Domain) (id moment : ℕ) (rs : List Reservation) → IsAcceptable (table_by d rs) → IsAcceptable (table_by d (changed id (ending_by moment) rs))
acceptable-ending d id moment rs met = (
  certified-ending d id moment rs met.0,
  All-weaker (λ entry. Carries entry.1 (shares_at d entry.0 (map (λ r. r.contract) rs) (map (λ r. r.bounds) rs)))
      (λ entry. Carries entry.1 (shares_at d entry.0 (map (λ r. r.contract) (changed id (ending_by moment) rs)) (map (λ r. r.bounds) (changed id (ending_by moment) rs))))
      (λ entry carried. subst (Carries entry.1) (sym (shares-ending d entry.0 id moment rs)) carried) d.meters met.1,
)

-- A change that a test does not see.
filter-changed : (id : ℕ) (change : Reservation → Reservation) (p : Reservation → Bool) (rs : List Reservation) → ((r : Reservation) → p (change r) ≡ p r)
    → filter p (changed id change rs) ≡ changed id change (filter p rs)
filter-changed id change p [] same = refl
filter-changed id change p (r ∷ rs) same = elim (cases_Bool (nat_eq id (id_of r))) [
  | inl is ↦ elim (cases_Bool (p r)) [
    | inl passes ↦ rw is (rw (same r) (rw passes (rw is (ap (λ rest. change r ∷ rest) (filter-changed id change p rs same)))))
    | inr fails ↦ rw is (rw (same r) (rw fails (filter-changed id change p rs same)))
  ]
  | inr is ↦ elim (cases_Bool (p r)) [
    | inl passes ↦ rw is (rw passes (rw is (ap (λ rest. r ∷ rest) (filter-changed id change p rs same))))
    | inr fails ↦ rw is (rw fails (filter-changed id change p rs same))
  ]
]

map-filter-changed : {A : Type 0} (f : Reservation → A) (id : ℕ) (change : Reservation → Reservation) (p : Reservation → Bool) (rs : List Reservation)
    → ((r : Reservation) → f (change r) ≡ f r) → AllByRecursion (λ r. nat_eq id (id_of r) ≡ true → p (change r) ≡ p r) rs
    → map f (filter p (changed id change rs)) ≡ map f (filter p rs)
map-filter-changed f id change p [] same all = refl
map-filter-changed f id change p (r ∷ rs) same all = elim (cases_Bool (nat_eq id (id_of r))) [
  | inl is ↦ elim (cases_Bool (p r)) [
    | inl passes ↦ rw is (rw (all.0 is) (rw passes (ap (λ x. x ∷ map f (filter p (changed id change rs))) (same r) ∙ ap (λ rest. f r ∷ rest) (map-filter-changed f id change p rs same all.1))))
    | inr fails ↦ rw is (rw (all.0 is) (rw fails (map-filter-changed f id change p rs same all.1)))
  ]
  | inr is ↦ elim (cases_Bool (p r)) [
    | inl passes ↦ rw is (rw passes (ap (λ rest. f r ∷ rest) (map-filter-changed f id change p rs same all.1)))
    | inr fails ↦ rw is (rw fails (map-filter-changed f id change p rs same all.1))
  ]
]

-- before its retirement a contract is reserved as it was
reserved-before : (moment at : ℕ) (r : Reservation) → at < moment → r.retirement ≡ None → is_reserved (retired_at moment r) at ≡ is_reserved r at
reserved-before moment at r before none = let still : nat_le moment at ≡ false = grind (arith, before) in rw (none, still) refl

all-before : (d : Domain) (id moment at : ℕ) (h : Holding) (rs : List Reservation) → at < moment → AllByRecursion (IsOnly d id h) rs
    → AllByRecursion (λ r. nat_eq id (id_of r) ≡ true → is_reserved (retired_at moment r) at ≡ is_reserved r at) rs
all-before d id moment at h [] before only = tt
all-before d id moment at h (r ∷ rs) before only =
    ((λ same. reserved-before moment at r before (ap (λ x. x.retirement) (only.0 same))), all-before d id moment at h rs before only.1)

table-before : (d : Domain) (id moment at : ℕ) (h : Holding) (rs : List Reservation) → at < moment → AllByRecursion (IsOnly d id h) rs
    → table_by d (reserved at (changed id (retired_at moment) rs)) ≡ table_by d (reserved at rs)
table-before d id moment at h rs before only =
    let same = all-before d id moment at h rs before only in
    table-same d (reserved at (changed id (retired_at moment) rs)) (map (λ r. r.contract) (reserved at rs)) (map (λ r. r.bounds) (reserved at rs))
    (map-filter-changed (λ r. r.contract) id (retired_at moment) (λ r. is_reserved r at) rs (λ r. refl) same)
    (map-filter-changed (λ r. r.bounds) id (retired_at moment) (λ r. is_reserved r at) rs (λ r. refl) same)

-- Holds.
held-changed : (d : Domain) (id : ℕ) (change : Reservation → Reservation) (rs : List Reservation)
    → AllByRecursion (λ r. nat_eq id (id_of r) ≡ true → IsHeld d r → IsHeld d (change r)) rs → AllByRecursion (IsHeld d) rs → AllByRecursion (IsHeld d) (changed id change rs)
held-changed d id change [] still held = tt
held-changed d id change (r ∷ rs) still held = elim (cases_Bool (nat_eq id (id_of r))) [
  | inl same ↦ rw same (still.0 same held.0, held-changed d id change rs still.1 held.1)
  | inr other ↦ rw other (held.0, held-changed d id change rs still.1 held.1)
]

free-ending : (o : Option ℕ) (moment hold at : ℕ) → IsSomeAnd o (λ until. until + hold ≤ at) → end_by moment o + hold ≤ at
free-ending None moment hold at free = absurd free
free-ending (Some until) moment hold at free = omega (arith, free)

held-ending : (d : Domain) (moment : ℕ) (r : Reservation) → IsHeld d r → IsHeld d (ending_by moment r)
unfolding source_of
held-ending d moment r held = λ at some. free-ending r.contract.lifetime.until moment (hold_of d r.contract r.bounds) at (held at some)

all-ending : (d : Domain) (id moment : ℕ) (rs : List Reservation) → AllByRecursion (λ r. nat_eq id (id_of r) ≡ true → IsHeld d r → IsHeld d (ending_by moment r)) rs
all-ending d id moment [] = tt
all-ending d id moment (r ∷ rs) = ((λ same held. held-ending d moment r held), all-ending d id moment rs)

free-some : (o : Option ℕ) (hold at : ℕ) → is_some o ≡ true → unwrap_or o 0 + hold ≤ at → IsSomeAnd o (λ until. until + hold ≤ at)
free-some None hold at some free = cc
free-some (Some until) hold at some free = free

held-retired : (d : Domain) (moment : ℕ) (h : Holding) (r : Reservation) → r ≡ held_as d h → is_some h.contract.lifetime.until ≡ true → free_from d h.contract ≤ moment
    → IsHeld d (retired_at moment r)
held-retired d moment h r is some free = λ at when.
    let same : moment ≡ at = same_Some moment at when in
    subst (λ x. IsFreeBy d x at) (sym is) (free-some h.contract.lifetime.until (hold_of d h.contract (least_of d h.contract)) at some (omega (arith, free, same)))

all-retired : (d : Domain) (id moment : ℕ) (h : Holding) (rs : List Reservation) → is_some h.contract.lifetime.until ≡ true → free_from d h.contract ≤ moment
    → AllByRecursion (IsOnly d id h) rs → AllByRecursion (λ r. nat_eq id (id_of r) ≡ true → IsHeld d r → IsHeld d (retired_at moment r)) rs
all-retired d id moment h [] some free only = tt
all-retired d id moment h (r ∷ rs) some free only = ((λ same held. held-retired d moment h r (only.0 same) some free), all-retired d id moment h rs some free only.1)

never-retired : (d : Domain) (flow : ℕ) (c : Contract) → IsHeld d (granted_as d flow c)
never-retired d flow c at some = absurd (none-some at some)

-- What is known where nothing stands against a command.
unchecked : (b : Book) (c : Contract) (o : Option BrokerRefusal) → refusal_or_checked o b c ≡ None → refusal_of (table_of (with_command b (Reserve c))) ≡ None
unchecked b c (Some refusal) none = cc
unchecked b c None none = none-by Checker (refusal_of (table_of (with_command b (Reserve c)))) none

hold-over : (moment end : ℕ) (released full : Bool) → (if released then if full then Some HistoryFull else hold_left moment end else Some NotReleased) ≡ None
    → (released ≡ true) × (end ≤ moment)
hold-over moment end false full none = cc
hold-over moment end true true none = cc
hold-over moment end true false none = elim (cases_Bool (nat_lt moment end)) [
  | inl later ↦ absurd (none-some _ (sym (rw later at none)))
  | inr over ↦ (refl, grind (arith, over))
]

-- the contract that a retire takes out
record IsOver (d : Domain) (id moment : ℕ) (held : List Holding) : Type 0 where
  pub holding : Holding
  pub found : holding_of id held ≡ Some holding
  pub released : holding.released ≡ true
  pub free : free_from d holding.contract ≤ moment

over-found : (b : Book) (id moment : ℕ) (o : Option Holding) → holding_of id (held_of b) ≡ o → retire_refusal_at b moment o ≡ None → IsOver b.domain id (moment_in b moment) (held_of b)
over-found b id moment None is none = cc
over-found b id moment (Some h) is none =
    let over = hold-over (moment_in b moment) (free_from b.domain h.contract) h.released (nat_le b.limits.history (length b.history)) none in
    record { holding = h; found = is; released = over.0; free = over.1 }

first-of : (id : ℕ) (held : List Holding) (h : Holding) → holding_of id held ≡ Some h → (place : ℕ) × IsFirst id held place
unfolding IsFirst
first-of id [] h found = absurd (none-some h found)
first-of id (g ∷ held) h found = elim (cases_Bool (nat_eq id g.id)) [
  | inl same ↦ (zero, same)
  | inr other ↦ let rest = first-of id held h (rw other at found) in (suc rest.0, (other, rest.1))
]

acceptable-retired : (d : Domain) (id : ℕ) (held : List Holding) (h : Holding) → holding_of id held ≡ Some h → IsAcceptable (table_in d held) → IsAcceptable (table_in d (with_retired id held))
acceptable-retired d id held h found met =
    let first = first-of id held h found in
    let inside : first.0 < length (contracts_in held) = omega (arith, first-below id held first.0 first.1, length-map held (λ h. h.contract)) in
    subst IsAcceptable (sym (table-retired d id held first.0 first.1)) (acceptable-taken (table_in d held) first.0 h.contract [] inside met)

-- What was granted is held and acceptable.
record IsSafe (d : Domain) (p : Past) : Type 0 where
  pub held : AllByRecursion (IsHeld d) p.granted
  pub acceptable : (moment : ℕ) → IsAcceptable (table_by d (reserved moment p.granted))

-- at any moment, from what holds by the newest and before
at-any : (d : Domain) (s : Standing) (p : Past) (moment : ℕ) → IsPast d s p → IsAcceptable (table_in d s.held)
    → (moment < p.newest → IsAcceptable (table_by d (reserved moment p.granted))) → IsAcceptable (table_by d (reserved moment p.granted))
at-any d s p moment past met before = elim (cases_Bool (nat_le p.newest moment)) [
  | inl late ↦ subst IsAcceptable (sym (table-by_now d s p moment past (grind (arith, late)))) met
  | inr early ↦ before (grind (arith, early))
]

reserved-push : (moment : ℕ) (rs : List Reservation) (r : Reservation) → moment < r.from → reserved moment (rs ++ r ∷ []) ≡ reserved moment rs
reserved-push moment rs r early =
    let no : nat_le r.from moment ≡ false = grind (arith, early) in
    let alone : reserved moment (r ∷ []) ≡ [] = rw no refl in
    filter-append (λ x. is_reserved x moment) rs (r ∷ []) ∙ ap (λ xs. reserved moment rs ++ xs) alone ∙ append-nil (reserved moment rs)

safe-reserved : (d : Domain) (s : Standing) (p : Past) (c : Contract) → IsPast d s p → IsSafe d p → IsAcceptable (table_in d (after s (Reserve c)).held) → IsSafe d (past_after d p (Reserve c))
safe-reserved d s p c past safe met =
    let new = granted_as d (length p.granted) (begun p.newest c) in
    record {
      held = AllByRecursion-push (IsHeld d) p.granted new safe.held (never-retired d (length p.granted) (begun p.newest c));
      acceptable = λ moment. at-any d (after s (Reserve c)) (past_after d p (Reserve c)) moment (past-next d s p (Reserve c) past) met
          (λ early. subst (λ rs. IsAcceptable (table_by d rs)) (sym (reserved-push moment p.granted new early)) (safe.acceptable moment));
    }

safe-released : (d : Domain) (p : Past) (id at : ℕ) → IsSafe d p → IsSafe d (past_after d p (Release id at))
safe-released d p id at safe =
    let m = max p.newest at in
    record {
      held = held-changed d id (ending_by m) p.granted (all-ending d id m p.granted) safe.held;
      acceptable = λ moment. subst (λ rs. IsAcceptable (table_by d rs))
          (sym (filter-changed id (ending_by m) (λ r. is_reserved r moment) p.granted (λ r. refl)))
          (acceptable-ending d id m (reserved moment p.granted) (safe.acceptable moment));
    }

safe-retired : (d : Domain) (s : Standing) (p : Past) (id at : ℕ) → IsPast d s p → IsSafe d p → IsOver d id (max s.newest at) s.held → IsSafe d (past_after d p (Retire id at))
safe-retired d s p id at past safe over =
    let m = max p.newest at in
    let h = over.holding in
    let newest : m ≡ max s.newest at = ap (λ n. max n at) past.newest in
    let only = held-only d id 0 p.granted s.held h past.numbered past.given_ids past.unretired over.found in
    let met = acceptable-retired d id s.held h over.found (subst IsAcceptable (table-by_now d s p p.newest past (omega arith)) (safe.acceptable p.newest)) in
    record {
      held = held-changed d id (retired_at m) p.granted
          (all-retired d id m h p.granted ((holding-all IsGiven id s.held h past.given_ids over.found).0.1 over.released) (omega (arith, over.free, newest)) only) safe.held;
      acceptable = λ moment. at-any d (after s (Retire id at)) (past_after d p (Retire id at)) moment (past-next d s p (Retire id at) past) met
          (λ early. subst IsAcceptable (sym (table-before d id m moment h p.granted early only)) (safe.acceptable moment));
    }

safe-after : (b : Book) (command : Command) → IsSafe b.domain (past_of b.domain b.history) → refusal_in b command ≡ None
    → IsSafe b.domain (past_after b.domain (past_of b.domain b.history) command)
safe-after b (Reserve c) safe none =
    safe-reserved b.domain (standing b) (past_of b.domain b.history) c (past-kept b.domain b.history) safe
    (subst (λ s. IsAcceptable (table_in b.domain s.held)) (standing-push b.history (Reserve c))
    (acceptable (table_of (with_command b (Reserve c))) (unchecked b c (room_refusal b c) none)))
safe-after b (Release id at) safe none = safe-released b.domain (past_of b.domain b.history) id at safe
safe-after b (Retire id moment) safe none =
    safe-retired b.domain (standing b) (past_of b.domain b.history) id moment (past-kept b.domain b.history) safe
    (over-found b id moment (holding_of id (held_of b)) refl none)

safe-next : (b : Book) (command : Command) → IsSafe b.domain (past_of b.domain b.history) → refusal_in b command ≡ None
    → IsSafe b.domain (past_of b.domain (b.history ++ command ∷ []))
safe-next b command safe none = subst (IsSafe b.domain) (sym (past-push b.domain b.history command)) (safe-after b command safe none)

safe-fold : (b : Book) (commands : List Command) → IsSafe b.domain (past_of b.domain b.history) → AreUnrefused b commands
    → IsSafe b.domain (past_of b.domain (b.history ++ commands))
unfolding AreUnrefused
safe-fold b [] safe unrefused = subst (λ history. IsSafe b.domain (past_of b.domain history)) (sym (append-nil b.history)) safe
safe-fold b (command ∷ commands) safe unrefused =
    subst (λ history. IsSafe b.domain (past_of b.domain history)) (append_assoc b.history (command ∷ []) commands)
    (safe-fold (with_command b command) commands (safe-next b command safe unrefused.0) unrefused.1)

-- a domain with nothing granted
safe-opened : (d : Domain) → IsSafe d (past_of d [])
unfolding past_of
safe-opened d = record { held = tt; acceptable = λ moment. none-acceptable d }

told-begun : (newest : ℕ) (rs : List Reservation) → AllByRecursion (IsTold newest) rs → AllByRecursion (λ r. r.from ≤ r.contract.lifetime.since) rs
told-begun newest [] told = tt
told-begun newest (r ∷ rs) told = (omega (arith, told.0.begun), told-begun newest rs told.1)

pub covered-behind : (d : Domain) (limits : Limits) (history : List Command) → AreUnrefused (record { domain = d; limits = limits; history = [] }) history
    → IsCovered (timeline_behind d history)
covered-behind d limits history unrefused =
    let p = past_of d history in
    let past = past-kept d history in
    let safe = safe-fold (record { domain = d; limits = limits; history = [] }) history (safe-opened d) unrefused in
    record {
      apart = numbered-apart 0 p.granted past.numbered;
      begun = All-from_recursion (λ r. r.from ≤ r.contract.lifetime.since) p.granted (told-begun p.newest p.granted past.told);
      held = All-from_recursion (IsHeld d) p.granted safe.held;
      acceptable = safe.acceptable;
    }

pub timeline-kept : (d : Domain) (limits : Limits) (history : List Command) → AreUnrefused (record { domain = d; limits = limits; history = [] }) history → length history ≤ 2 ^ 24
    → AllByRecursion (IsOfRates d) history
    → IsTimeline (timeline_behind d history)
timeline-kept d limits history unrefused short rates = record {
  covered = covered-behind d limits history unrefused;
  rated = All-from_recursion (IsRated d) (past_of d history).granted (rated-behind d history rates);
  numbered = (past-kept d history).numbered;
  few = omega (arith, (past-kept d history).count, granted-most history, short);
}
