-- What was ever granted behind some commands, beside what stands behind them.
use Rattle.std.proofs.Common.{◌≡◌, ◌≤◌, ◌+◌, ◌-◌, ℕ, suc, Bool, true, false, List, [], ◌∷◌, ◌++◌, Option, None, Some, refl, sym, ap, ◌∙◌, arith, inl, inr, true≢false, subst, IfSome, filter, fold, is_none, is_some, length, map, max, nat_eq, if◌then◌else◌}
use Rattle.std.specs.List.{AllByRecursion}
use Rattle.std.proofs.lemmas.Bool.{cases_Bool}
use Rattle.std.proofs.lemmas.List.{length-append, length-map, map-append}
use Rattle.std.proofs.lemmas.List.Elements.{filter-append}
use Rattle.std.proofs.lemmas.List.Sums.{fold-append}
use Rattle.std.proofs.lemmas.Option.{none-some, same_Some}
use Rattle.ds_domain_base.specs.Domains.{Domain}
use Rattle.ds_domain_base.specs.declared.contract.Contract.{Contract}
use Rattle.ds_certificate.specs.Sources.{source_of}
use Rattle.ds_timeline.specs.Kept.{IsNumbered}
use Rattle.ds_timeline.specs.declared.reservation.Reservation.{Reservation}
use Rattle.ds_timeline.proofs.NumberedLaws.{numbered-push}
use Rattle.ds_broker.specs.Books.{holding_of}
use Rattle.ds_broker.specs.Histories.{Holding, Standing, after, begun, ended, opening, standing_of, with_released, with_retired}
use Rattle.ds_broker.specs.Timelines.{Past, changed, ending_by, granted_as, id_of, no_past, past_after, past_of, retired_at}
use Rattle.ds_broker.specs.declared.command.Command.{Command}
use Rattle.ds_broker.specs.declared.command.Command.TheVariants.{Reserve, Release, Retire}
use Rattle.ds_broker.proofs.HoldingLaws.{AllByRecursion-push, all-released, all-retired}

-- what is held, as it was granted
abbrev pub held_as : Domain → Holding → Reservation
held_as d h = granted_as d (h.id - 1) h.contract

abbrev pub is_unretired : Reservation → Bool
is_unretired r = is_none r.retirement

-- an id that was given, and an end where it is released
abbrev pub IsGiven : Holding → Type 0
IsGiven h = (1 ≤ h.id) × (h.released ≡ true → is_some h.contract.lifetime.until ≡ true)

-- reserved from its beginning on, and what is known of it came about by a moment
pub record IsTold (newest : ℕ) (r : Reservation) : Type 0 where
  pub begun : r.from ≡ r.contract.lifetime.since
  pub early : r.from ≤ newest
  pub retired : IfSome r.retirement (λ moment. moment ≤ newest)

pub record IsPast (d : Domain) (s : Standing) (p : Past) : Type 0 where
  pub newest : p.newest ≡ s.newest
  pub count : length p.granted ≡ s.granted
  pub numbered : IsNumbered 0 p.granted
  pub unretired : filter is_unretired p.granted ≡ map (held_as d) s.held
  pub told : AllByRecursion (IsTold p.newest) p.granted
  pub given_ids : AllByRecursion IsGiven s.held

retired-weaker : (o : Option ℕ) (newest later : ℕ) → newest ≤ later → IfSome o (λ moment. moment ≤ newest) → IfSome o (λ moment. moment ≤ later)
retired-weaker None newest later more by = tt
retired-weaker (Some moment) newest later more by = omega (arith, more, by)

told-weaker : (newest later : ℕ) (r : Reservation) → newest ≤ later → IsTold newest r → IsTold later r
told-weaker newest later r more told = record {
  begun = told.begun;
  early = omega (arith, more, told.early);
  retired = retired-weaker r.retirement newest later more told.retired;
}

told-all-weaker : (newest later : ℕ) (rs : List Reservation) → newest ≤ later → AllByRecursion (IsTold newest) rs → AllByRecursion (IsTold later) rs
told-all-weaker newest later [] more told = tt
told-all-weaker newest later (r ∷ rs) more told = (told-weaker newest later r more told.0, told-all-weaker newest later rs more told.1)

-- A change of the contract of an id.
numbered-changed : (id : ℕ) (change : Reservation → Reservation) (number : ℕ) (rs : List Reservation) → ((r : Reservation) → (change r).flow ≡ r.flow) → IsNumbered number rs
    → IsNumbered number (changed id change rs)
unfolding IsNumbered
numbered-changed id change number [] same numbered = tt
numbered-changed id change number (r ∷ rs) same numbered = elim (cases_Bool (nat_eq id (id_of r))) [
  | inl is ↦ rw is ((same r ∙ numbered.0), numbered-changed id change (suc number) rs same numbered.1)
  | inr is ↦ rw is (numbered.0, numbered-changed id change (suc number) rs same numbered.1)
]

told-changed : (id : ℕ) (change : Reservation → Reservation) (newest later : ℕ) (rs : List Reservation) → newest ≤ later
    → ((r : Reservation) → IsTold newest r → IsTold later (change r)) → AllByRecursion (IsTold newest) rs → AllByRecursion (IsTold later) (changed id change rs)
told-changed id change newest later [] more still told = tt
told-changed id change newest later (r ∷ rs) more still told = elim (cases_Bool (nat_eq id (id_of r))) [
  | inl is ↦ rw is (still r told.0, told-changed id change newest later rs more still told.1)
  | inr is ↦ rw is (told-weaker newest later r more told.0, told-changed id change newest later rs more still told.1)
]

-- above an id nothing is changed
pub changed-above : (id : ℕ) (change : Reservation → Reservation) (number : ℕ) (rs : List Reservation) → id ≤ number → IsNumbered number rs → changed id change rs ≡ rs
unfolding IsNumbered
changed-above id change number [] above numbered = refl
changed-above id change number (r ∷ rs) above numbered =
    let other : nat_eq id (id_of r) ≡ false = grind (arith, above, numbered.0) in
    rw other (ap (λ rest. r ∷ rest) (changed-above id change (suc number) rs (omega (arith, above)) numbered.1))

-- Heads and tails.
pub no-nil : {A : Type 0} (x : A) (xs : List A) → x ∷ xs ≡ [] → ⊥
no-nil x xs is = cc

pub same-head : {A : Type 0} (x y : A) (xs ys : List A) → x ∷ xs ≡ y ∷ ys → x ≡ y
same-head x y xs ys is = cc

pub same-tail : {A : Type 0} (x y : A) (xs ys : List A) → x ∷ xs ≡ y ∷ ys → xs ≡ ys
same-tail x y xs ys is = cc

-- what is unretired is filtered
pub filter-none : (r : Reservation) (rs : List Reservation) → r.retirement ≡ None → filter is_unretired (r ∷ rs) ≡ r ∷ filter is_unretired rs
filter-none r rs none = rw none refl

pub filter-some : (r : Reservation) (rs : List Reservation) (moment : ℕ) → r.retirement ≡ Some moment → filter is_unretired (r ∷ rs) ≡ filter is_unretired rs
filter-some r rs moment some = rw some refl

pub data Retirement (o : Option ℕ) : Type 0 where
  none : o ≡ None → Retirement o
  some : (moment : ℕ) → o ≡ Some moment → Retirement o

pub cases_retirement : (o : Option ℕ) → Retirement o
cases_retirement None = none refl
cases_retirement (Some moment) = some moment refl

-- the id of what is held as it was granted
pub held_as-id : (d : Domain) (h : Holding) → 1 ≤ h.id → id_of (held_as d h) ≡ h.id
held_as-id d h given_id = omega (arith, given_id)

same-id : (d : Domain) (id : ℕ) (r : Reservation) (h : Holding) → r ≡ held_as d h → 1 ≤ h.id → nat_eq id (id_of r) ≡ nat_eq id h.id
same-id d id r h is given_id = ap (λ x. nat_eq id (id_of x)) is ∙ ap (nat_eq id) (held_as-id d h given_id)

below-next : (id number : ℕ) (r : Reservation) → nat_eq id (id_of r) ≡ true → r.flow ≡ number → id ≤ suc number
below-next id number r same flow = grind (arith, same, flow)

ending-held : (d : Domain) (moment : ℕ) (r : Reservation) (h : Holding) → r ≡ held_as d h
    → ending_by moment r ≡ held_as d (record { id = h.id; contract = ended moment h.contract; released = true })
unfolding source_of
ending-held d moment r h is = ap (ending_by moment) is

-- Along all that was granted, and what is held of it: what is retired is passed by, and what is not is held as it was granted.
module _ (d : Domain) (P : ℕ → List Reservation → List Holding → Type 0) (none_left : (number : ℕ) → P number [] [])
    (passed_by : (number : ℕ) (r : Reservation) (rs : List Reservation) (held : List Holding) (at : ℕ) → r.retirement ≡ Some at → r.flow ≡ number → P (suc number) rs held → P number (r ∷ rs) held)
    (as_granted : (number : ℕ) (r : Reservation) (rs : List Reservation) (h : Holding) (held : List Holding) → r.retirement ≡ None → r.flow ≡ number → IsNumbered (suc number) rs
    → r ≡ held_as d h → 1 ≤ h.id → filter is_unretired rs ≡ map (held_as d) held → P (suc number) rs held → P number (r ∷ rs) (h ∷ held)) where
  walk-first : (number : ℕ) (r : Reservation) (rs : List Reservation) (held : List Holding) → r.retirement ≡ None → r.flow ≡ number → IsNumbered (suc number) rs
      → ((held : List Holding) → AllByRecursion IsGiven held → filter is_unretired rs ≡ map (held_as d) held → P (suc number) rs held)
      → AllByRecursion IsGiven held → r ∷ filter is_unretired rs ≡ map (held_as d) held → P number (r ∷ rs) held
  walk-first number r rs [] unretired flow numbered again given_ids is = absurd (no-nil r (filter is_unretired rs) is)
  walk-first number r rs (h ∷ held) unretired flow numbered again given_ids is =
      let here = same-head r (held_as d h) (filter is_unretired rs) (map (held_as d) held) is in
      let rest = same-tail r (held_as d h) (filter is_unretired rs) (map (held_as d) held) is in
      as_granted number r rs h held unretired flow numbered here given_ids.0.0 rest (again held given_ids.1 rest)

  walk : (number : ℕ) (rs : List Reservation) (held : List Holding) → IsNumbered number rs → AllByRecursion IsGiven held → filter is_unretired rs ≡ map (held_as d) held → P number rs held
  unfolding IsNumbered
  walk number [] [] numbered given_ids is = none_left number
  walk number [] (h ∷ held) numbered given_ids is = absurd (no-nil (held_as d h) (map (held_as d) held) (sym is))
  walk number (r ∷ rs) held numbered given_ids is = elim (cases_retirement r.retirement) [
    | some at retired ↦ passed_by number r rs held at retired numbered.0 (walk (suc number) rs held numbered.1 given_ids (sym (filter-some r rs at retired) ∙ is))
    | none unretired ↦
        walk-first number r rs held unretired numbered.0 numbered.1
        (λ others ids left. walk (suc number) rs others numbered.1 ids left) given_ids (sym (filter-none r rs unretired) ∙ is)
  ]

-- what is unretired once the contract of an id is released
unretired-released : (d : Domain) (id moment number : ℕ) (rs : List Reservation) (held : List Holding) → IsNumbered number rs → AllByRecursion IsGiven held
    → filter is_unretired rs ≡ map (held_as d) held
    → filter is_unretired (changed id (ending_by moment) rs) ≡ map (held_as d) (with_released id moment held)
unfolding with_released
unretired-released d id moment =
    walk d (λ number rs held. filter is_unretired (changed id (ending_by moment) rs) ≡ map (held_as d) (with_released id moment held)) (λ number. refl)
    (λ number r rs held at retired flow rest. elim (cases_Bool (nat_eq id (id_of r))) [
      | inl same ↦ rw same (filter-some (ending_by moment r) (changed id (ending_by moment) rs) at retired ∙ rest)
      | inr other ↦ rw other (filter-some r (changed id (ending_by moment) rs) at retired ∙ rest)
    ])
    (λ number r rs h held unretired flow numbered here given_id left rest.
    let test = same-id d id r h here given_id in
    elim (cases_Bool (nat_eq id h.id)) [
      | inl same ↦
          let yes : nat_eq id (id_of r) ≡ true = test ∙ same in
          rw yes (rw same (filter-none (ending_by moment r) (changed id (ending_by moment) rs) unretired
          ∙ ap (λ x. ending_by moment r ∷ filter is_unretired x) (changed-above id (ending_by moment) (suc number) rs (below-next id number r yes flow) numbered)
          ∙ ap (λ x. x ∷ filter is_unretired rs) (ending-held d moment r h here)
          ∙ ap (λ xs. held_as d (record { id = h.id; contract = ended moment h.contract; released = true }) ∷ xs) left))
      | inr other ↦
          let no : nat_eq id (id_of r) ≡ false = test ∙ other in
          rw no (rw other (filter-none r (changed id (ending_by moment) rs) unretired
          ∙ ap (λ xs. r ∷ xs) rest ∙ ap (λ x. x ∷ map (held_as d) (with_released id moment held)) here))
    ])

-- what is unretired once the contract of an id is retired
unretired-retired : (d : Domain) (id moment number : ℕ) (rs : List Reservation) (held : List Holding) → IsNumbered number rs → AllByRecursion IsGiven held
    → filter is_unretired rs ≡ map (held_as d) held
    → filter is_unretired (changed id (retired_at moment) rs) ≡ map (held_as d) (with_retired id held)
unfolding with_retired
unretired-retired d id moment =
    walk d (λ number rs held. filter is_unretired (changed id (retired_at moment) rs) ≡ map (held_as d) (with_retired id held)) (λ number. refl)
    (λ number r rs held at retired flow rest. elim (cases_Bool (nat_eq id (id_of r))) [
      | inl same ↦ rw same (filter-some (retired_at moment r) (changed id (retired_at moment) rs) moment refl ∙ rest)
      | inr other ↦ rw other (filter-some r (changed id (retired_at moment) rs) at retired ∙ rest)
    ])
    (λ number r rs h held unretired flow numbered here given_id left rest.
    let test = same-id d id r h here given_id in
    elim (cases_Bool (nat_eq id h.id)) [
      | inl same ↦
          let yes : nat_eq id (id_of r) ≡ true = test ∙ same in
          rw yes (rw same (filter-some (retired_at moment r) (changed id (retired_at moment) rs) moment refl
          ∙ ap (λ x. filter is_unretired x) (changed-above id (retired_at moment) (suc number) rs (below-next id number r yes flow) numbered) ∙ left))
      | inr other ↦
          let no : nat_eq id (id_of r) ≡ false = test ∙ other in
          rw no (rw other (filter-none r (changed id (retired_at moment) rs) unretired
          ∙ ap (λ xs. r ∷ xs) rest ∙ ap (λ x. x ∷ map (held_as d) (with_retired id held)) here))
    ])

-- one command more
past-reserved : (d : Domain) (s : Standing) (p : Past) (c : Contract) → IsPast d s p → IsPast d (after s (Reserve c)) (past_after d p (Reserve c))
past-reserved d s p c past =
    let new = granted_as d (length p.granted) (begun p.newest c) in
    let h : Holding = record { id = s.granted + 1; contract = begun s.newest c; released = false } in
    let flow : length p.granted ≡ h.id - 1 = omega (arith, past.count) in
    let same : new ≡ held_as d h = ap (λ n. granted_as d n (begun p.newest c)) flow ∙ ap (λ n. granted_as d (h.id - 1) (begun n c)) past.newest in
    record {
      newest = ap (λ n. max n c.lifetime.since) past.newest;
      count = length-append p.granted (new ∷ []) ∙ ap (λ n. n + 1) past.count;
      numbered = numbered-push 0 p.granted new past.numbered (omega arith);
      unretired = filter-append is_unretired p.granted (new ∷ []) ∙ ap (λ rs. rs ++ new ∷ []) past.unretired ∙ ap (λ x. map (held_as d) s.held ++ x ∷ []) same
          ∙ sym (map-append (held_as d) s.held (h ∷ []));
      told = AllByRecursion-push (IsTold (max p.newest c.lifetime.since)) p.granted new
          (told-all-weaker p.newest (max p.newest c.lifetime.since) p.granted (omega arith) past.told) (record { begun = refl; early = omega arith; retired = tt });
      given_ids = AllByRecursion-push IsGiven s.held h past.given_ids (omega arith, λ done. absurd (true≢false (sym done)));
    }

told-ending : (moment newest later : ℕ) (r : Reservation) → newest ≤ later → IsTold newest r → IsTold later (ending_by moment r)
told-ending moment newest later r more told = record {
  begun = told.begun;
  early = omega (arith, more, told.early);
  retired = retired-weaker r.retirement newest later more told.retired;
}

past-released : (d : Domain) (s : Standing) (p : Past) (id at : ℕ) → IsPast d s p → IsPast d (after s (Release id at)) (past_after d p (Release id at))
past-released d s p id at past =
    let m = max p.newest at in
    record {
      newest = ap (λ n. max n at) past.newest;
      count = length-map p.granted (λ r. if nat_eq id (id_of r) then ending_by m r else r) ∙ past.count;
      numbered = numbered-changed id (ending_by m) 0 p.granted (λ r. refl) past.numbered;
      unretired = ap (λ n. filter is_unretired (changed id (ending_by (max n at)) p.granted)) past.newest
          ∙ unretired-released d id (max s.newest at) 0 p.granted s.held past.numbered past.given_ids past.unretired;
      told = told-changed id (ending_by m) p.newest m p.granted (omega arith) (λ r told. told-ending m p.newest m r (omega arith) told) past.told;
      given_ids = all-released IsGiven id (max s.newest at) s.held (λ h own. (own.0, λ _. refl)) past.given_ids;
    }

past-retired : (d : Domain) (s : Standing) (p : Past) (id moment : ℕ) → IsPast d s p → IsPast d (after s (Retire id moment)) (past_after d p (Retire id moment))
past-retired d s p id moment past =
    let m = max p.newest moment in
    record {
      newest = ap (λ n. max n moment) past.newest;
      count = length-map p.granted (λ r. if nat_eq id (id_of r) then retired_at m r else r) ∙ past.count;
      numbered = numbered-changed id (retired_at m) 0 p.granted (λ r. refl) past.numbered;
      unretired = ap (λ n. filter is_unretired (changed id (retired_at (max n moment)) p.granted)) past.newest
          ∙ unretired-retired d id (max s.newest moment) 0 p.granted s.held past.numbered past.given_ids past.unretired;
      told = told-changed id (retired_at m) p.newest m p.granted (omega arith)
          (λ r told. record { begun = told.begun; early = omega (arith, told.early); retired = omega arith }) past.told;
      given_ids = all-retired IsGiven id s.held past.given_ids;
    }

pub past-next : (d : Domain) (s : Standing) (p : Past) (command : Command) → IsPast d s p → IsPast d (after s command) (past_after d p command)
past-next d s p (Reserve c) past = past-reserved d s p c past
past-next d s p (Release id at) past = past-released d s p id at past
past-next d s p (Retire id moment) past = past-retired d s p id moment past

past-fold : (d : Domain) (s : Standing) (p : Past) (commands : List Command) → IsPast d s p → IsPast d (fold after s commands) (fold (past_after d) p commands)
past-fold d s p [] past = past
past-fold d s p (command ∷ commands) past = past-fold d (after s command) (past_after d p command) commands (past-next d s p command past)

-- what was granted behind some commands
pub past-kept : (d : Domain) (history : List Command) → IsPast d (standing_of history) (past_of d history)
unfolding IsNumbered past_of standing_of
past-kept d history =
    past-fold d opening no_past history (record { newest = refl; count = refl; numbered = tt; unretired = refl; told = tt; given_ids = tt })

-- one command more
pub past-push : (d : Domain) (history : List Command) (command : Command) → past_of d (history ++ command ∷ []) ≡ past_after d (past_of d history) command
unfolding past_of
past-push d history command = fold-append (past_after d) no_past history (command ∷ [])

abbrev pub IsOnly : Domain → ℕ → Holding → Reservation → Type 0
IsOnly d id h r = nat_eq id (id_of r) ≡ true → r ≡ held_as d h

other-above : (id number : ℕ) (r : Reservation) → id ≤ number → r.flow ≡ number → nat_eq id (id_of r) ≡ true → ⊥
other-above id number r above flow same = grind (arith, above, flow, same)

other-below : (id number : ℕ) (r : Reservation) → suc (suc number) ≤ id → r.flow ≡ number → nat_eq id (id_of r) ≡ true → ⊥
other-below id number r below flow same = grind (arith, below, flow, same)

only-above : (d : Domain) (id number : ℕ) (rs : List Reservation) (h : Holding) → id ≤ number → IsNumbered number rs → AllByRecursion (IsOnly d id h) rs
unfolding IsNumbered
only-above d id number [] h above numbered = tt
only-above d id number (r ∷ rs) h above numbered =
    ((λ same. absurd (other-above id number r above numbered.0 same)), only-above d id (suc number) rs h (omega (arith, above)) numbered.1)

-- Where the contract of an id is held, no other was granted under that id, and it is that one.
held-alone : (d : Domain) (id number : ℕ) (rs : List Reservation) (held : List Holding) (h : Holding) → IsNumbered number rs → AllByRecursion IsGiven held
    → filter is_unretired rs ≡ map (held_as d) held → holding_of id held ≡ Some h → (suc number ≤ id) × AllByRecursion (IsOnly d id h) rs
held-alone d id from all holdings h =
    walk d (λ number rs held. holding_of id held ≡ Some h → (suc number ≤ id) × AllByRecursion (IsOnly d id h) rs) (λ number found. absurd (none-some h found))
    (λ number r rs held at retired flow again found.
    let rest = again found in (omega (arith, rest.0), ((λ same. absurd (other-below id number r rest.0 flow same)), rest.1)))
    (λ number r rs g held unretired flow numbered here given_id left again found.
    let test = same-id d id r g here given_id in
    elim (cases_Bool (nat_eq id g.id)) [
      | inl same ↦
          let one : g ≡ h = same_Some g h (rw same at found) in
          let own : id_of r ≡ g.id = ap (λ x. id_of x) here ∙ held_as-id d g given_id in (
            grind (arith, same, own, flow),
            ((λ _. here ∙ ap (held_as d) one), only-above d id (suc number) rs h (below-next id number r (test ∙ same) flow) numbered),
          )
      | inr other ↦
          let rest = again (rw other at found) in (omega (arith, rest.0), ((λ same. absurd (true≢false (sym same ∙ test ∙ other))), rest.1))
    ])
    from all holdings

pub held-only : (d : Domain) (id number : ℕ) (rs : List Reservation) (held : List Holding) (h : Holding) → IsNumbered number rs → AllByRecursion IsGiven held
    → filter is_unretired rs ≡ map (held_as d) held → holding_of id held ≡ Some h → AllByRecursion (IsOnly d id h) rs
held-only d id number rs held h numbered given_ids is found = (held-alone d id number rs held h numbered given_ids is found).1

-- what holds of all that is held holds of what is held under an id
pub holding-all : (P : Holding → Type 0) (id : ℕ) (held : List Holding) (h : Holding) → AllByRecursion P held → holding_of id held ≡ Some h → P h × (id ≡ h.id)
holding-all P id [] h all found = absurd (none-some h found)
holding-all P id (g ∷ held) h all found = elim (cases_Bool (nat_eq id g.id)) [
  | inl same ↦ let one : g ≡ h = same_Some g h (rw same at found) in subst (λ x. P x × (id ≡ x.id)) one (all.0, grind (arith, same))
  | inr other ↦ holding-all P id held h all.1 (rw other at found)
]
