-- What a command brings of a book that accepts it next.
use Rattle.std.proofs.Common.{◌≡◌, ◌≤◌, ◌<◌, ◌+◌, ◌^◌, ◌-◌, ℕ, zero, suc, true, false, List, [], ◌∷◌, ◌++◌, Option, None, Some, get_or, set, take, append-nil, append_assoc, refl, sym, ap, subst, ◌∙◌, arith, inl, inr, is_none, length, max, nat_eq}
use Rattle.std.specs.List.{AllByRecursion}
use Rattle.std.proofs.lemmas.Bool.{cases_Bool}
use Rattle.std.proofs.lemmas.List.{get_or_default, length-take, take_more}
use Rattle.ds_domain_base.specs.Domains.{Domain}
use Rattle.ds_domain_base.specs.Lifetimes.{IsInOrder, Span}
use Rattle.ds_domain_base.specs.declared.contract.Contract.{Contract}
use Rattle.ds_timeline.specs.Kept.{IsNumbered, IsTimeline}
use Rattle.ds_timeline.specs.Timelines.{Timeline, route_in, routes_in}
use Rattle.ds_timeline.specs.declared.reservation.Reservation.{Reservation}
use Rattle.ds_broker.specs.Books.{Book, Limits, held_of, holding_of, moment_in, standing}
use Rattle.ds_broker.specs.Histories.{Holding, end_by, ended}
use Rattle.ds_broker.specs.Refusals.{refusal_in, release_refusal_at, reserve_refusal, retire_refusal_at, room_refusal}
use Rattle.ds_broker.specs.Requests.{AreUnrefused}
use Rattle.ds_broker.specs.Timelines.{IsOfRates, Past, changed, ending_by, id_of, past_after, past_of, retired_at, timeline_behind}
use Rattle.ds_broker.specs.declared.command.Command.{Command}
use Rattle.ds_broker.specs.declared.command.Command.TheVariants.{Reserve, Release, Retire}
use Rattle.ds_broker.proofs.CoveredLaws.{timeline-kept}
use Rattle.ds_broker.proofs.PastLaws.{IsGiven, IsTold, changed-above, past-kept, past-push, holding-all}
use Rattle.ds_broker.proofs.RefusalLaws.{ordered, passed, roomy}
use Rattle.ds_broker.proofs.StandingLaws.{IsBounded, granted-most, standing-bounded}
use Rattle.ds_broker.specs.Kept.{IsGrantable, IsGranted, IsNext}

grantable-in : (b : Book) (c : Contract) → reserve_refusal b c ≡ None → length b.history < 2 ^ 24 → IsGrantable b.domain (past_of b.domain b.history) c
grantable-in b c none short =
    let past = past-kept b.domain b.history in
    let pass = passed b c (roomy (room_refusal b c) b c none) in
    record {
      fit = ap is_none pass.way;
      order = subst (λ n. IsInOrder (max n c.lifetime.since) c.lifetime.until) (sym past.newest) (ordered (moment_in b c.lifetime.since) c.lifetime.until pass.ordered);
      few = omega (arith, past.count, granted-most b.history, short);
    }

pub grantable : (d : Domain) (p : Past) (c : Contract) → IsNext d p (Reserve c) → IsGrantable d p c
grantable d p c next =
    subst (λ x. IsGrantable d x c) (sym next.past)
    (subst (λ x. IsGrantable x (past_of next.book.domain next.book.history) c) next.domain (grantable-in next.book c next.unrefused next.short))

told-since : (newest : ℕ) (rs : List Reservation) → AllByRecursion (IsTold newest) rs → AllByRecursion (λ r. r.contract.lifetime.since ≤ newest) rs
told-since newest [] told = tt
told-since newest (r ∷ rs) told = (omega (arith, told.0.begun, told.0.early), told-since newest rs told.1)

granted-in : (b : Book) (id : ℕ) (h : Holding) → holding_of id (held_of b) ≡ Some h → IsGranted (past_of b.domain b.history) id
granted-in b id h found =
    let past = past-kept b.domain b.history in
    let given_id = holding-all IsGiven id (held_of b) h past.given_ids found in
    let bounded = holding-all (IsBounded (standing b).granted (standing b).newest) id (held_of b) h (standing-bounded b.history) found in
    record {
      least = omega (arith, given_id.0.0, given_id.1);
      most = omega (arith, bounded.0.0, bounded.1, past.count);
      numbered = past.numbered;
      begun = told-since (past_of b.domain b.history).newest (past_of b.domain b.history).granted past.told;
    }

released-held : (b : Book) (o : Option Holding) → release_refusal_at b o ≡ None → (h : Holding) × (o ≡ Some h)
released-held b None none = cc
released-held b (Some h) none = (h, refl)

retired-held : (b : Book) (moment : ℕ) (o : Option Holding) → retire_refusal_at b moment o ≡ None → (h : Holding) × (o ≡ Some h)
retired-held b moment None none = cc
retired-held b moment (Some h) none = (h, refl)

pub granted-released : (d : Domain) (p : Past) (id at : ℕ) → IsNext d p (Release id at) → IsGranted p id
granted-released d p id at next =
    let found = released-held next.book (holding_of id (held_of next.book)) next.unrefused in
    subst (λ x. IsGranted x id) (sym next.past) (granted-in next.book id found.0 found.1)

pub granted-retired : (d : Domain) (p : Past) (id moment : ℕ) → IsNext d p (Retire id moment) → IsGranted p id
granted-retired d p id moment next =
    let found = retired-held next.book moment (holding_of id (held_of next.book)) next.unrefused in
    subst (λ x. IsGranted x id) (sym next.past) (granted-in next.book id found.0 found.1)

-- a change at the place of an id
set-from : (id : ℕ) (change : Reservation → Reservation) (number place : ℕ) (rs : List Reservation) (r : Reservation) → IsNumbered number rs → id ≡ number + place + 1
    → place < length rs → r ≡ get_or rs place r → set rs place (change r) ≡ changed id change rs
unfolding IsNumbered
set-from id change number place [] r numbered is inside at = absurd (omega (arith, inside))
set-from id change number zero (s ∷ rs) r numbered is inside at =
    let here : nat_eq id (id_of s) ≡ true = grind (arith, is, numbered.0) in
    rw here (ap (λ x. change x ∷ rs) at ∙ ap (λ rest. change s ∷ rest) (sym (changed-above id change (suc number) rs (omega (arith, is)) numbered.1)))
set-from id change number (suc place) (s ∷ rs) r numbered is inside at =
    let other : nat_eq id (id_of s) ≡ false = grind (arith, is, numbered.0) in
    rw other (ap (λ rest. s ∷ rest) (set-from id change (suc number) place rs r numbered.1 (omega (arith, is)) (omega (arith, inside)) at))

pub set-changed : (id : ℕ) (change : Reservation → Reservation) (place : ℕ) (rs : List Reservation) (r : Reservation) → IsNumbered 0 rs → id ≡ place + 1
    → place < length rs → r ≡ get_or rs place r → set rs place (change r) ≡ changed id change rs
set-changed id change place rs r numbered is inside at = set-from id change 0 place rs r numbered (omega (arith, is)) inside at

-- nothing stood against a command of a history behind those before it
unrefused-at : (b : Book) (commands : List Command) (place : ℕ) (command : Command) → AreUnrefused b commands → place < length commands → command ≡ get_or commands place command
    → refusal_in (record b { history = b.history ++ take place commands }) command ≡ None
unfolding AreUnrefused
unrefused-at b [] place command unrefused inside at = absurd (omega (arith, inside))
unrefused-at b (first ∷ commands) zero command unrefused inside at =
    subst (λ history. refusal_in (record b { history = history }) command ≡ None) (sym (append-nil b.history)) (ap (refusal_in b) at ∙ unrefused.0)
unrefused-at b (first ∷ commands) (suc place) command unrefused inside at =
    subst (λ history. refusal_in (record b { history = history }) command ≡ None) (append_assoc b.history (first ∷ []) (take place commands))
    (unrefused-at (record b { history = b.history ++ first ∷ [] }) commands place command unrefused.1 (omega (arith, inside)) at)

pub next-at : (d : Domain) (limits : Limits) (history : List Command) (place : ℕ) (command : Command) (p : Past) → AreUnrefused (record { domain = d; limits = limits; history = [] }) history
    → length history ≤ 2 ^ 24 → place < length history → command ≡ get_or history place command → p ≡ past_of d (take place history) → IsNext d p command
next-at d limits history place command p unrefused short inside at past = record {
  book = record { domain = d; limits = limits; history = take place history };
  domain = refl;
  past = past;
  unrefused = unrefused-at (record { domain = d; limits = limits; history = [] }) history place command unrefused inside at;
  short = omega (arith, length-take place history, inside, short);
}

-- one command more is taken
pub past-more : (d : Domain) (history : List Command) (place : ℕ) (command : Command) (p q : Past) → place < length history → command ≡ get_or history place command
    → p ≡ past_of d (take place history) → q ≡ past_after d p command → q ≡ past_of d (take (place + 1) history)
past-more d history place command p q inside at before is =
    is ∙ ap (λ x. past_after d x command) before ∙ sym (past-push d (take place history) command)
    ∙ ap (λ next. past_of d (take place history ++ next ∷ [])) at ∙ ap (past_of d) (sym (take_more history place command inside))

-- what holds of the commands so far holds of them and the next one
pub each-more : (P : Command → Type 0) (history : List Command) (place : ℕ) (command : Command) → place < length history → command ≡ get_or history place command
    → P command → AllByRecursion P (take place history) → AllByRecursion P (take (place + 1) history)
each-more P [] place command inside at holds each = absurd (omega (arith, inside))
each-more P (first ∷ history) zero command inside at holds each = (subst P at holds, tt)
each-more P (first ∷ history) (suc place) command inside at holds each =
    let next : suc place + 1 ≡ suc (place + 1) = omega arith in
    rw next (each.0, each-more P history place command (omega (arith, inside)) at holds each.1)

-- before the first command
pub past-start : (d : Domain) (p : Past) → p.newest ≡ 0 → p.granted ≡ [] → p ≡ past_of d []
unfolding past_of
past-start d p newest granted =
    ap (λ n. record { newest = n; granted = p.granted }) newest ∙ ap (λ rs. record { newest = 0; granted = rs }) granted

-- what was granted by an accepted history is a timeline
pub timeline-taken : (d domain : Domain) (limits : Limits) (history : List Command) (rs : List Reservation) (p : Past)
    → AreUnrefused (record { domain = d; limits = limits; history = [] }) history → length history ≤ 2 ^ 24 → AllByRecursion (IsOfRates d) history
    → domain ≡ d → rs ≡ p.granted → p ≡ past_of d history
    → IsTimeline (record { domain = domain; reservations = rs })
timeline-taken d domain limits history rs p unrefused short rates same granted past =
    let is : Timeline = record { domain = domain; reservations = rs } in
    let told : is ≡ timeline_behind d history =
    ap (λ x. record { domain = x; reservations = rs }) same ∙ ap (λ list. record { domain = d; reservations = list }) (granted ∙ ap (λ x. x.granted) past) in
    subst IsTimeline (sym told) (timeline-kept d limits history unrefused short rates)

-- the contract of an id is written over
pub past-ended : (rs : List Reservation) (newest at moment id : ℕ) (new : List Reservation) (r s : Reservation) (lifetime : Span) → moment ≡ max newest at
    → IsNumbered 0 rs → 1 ≤ id → id ≤ length rs → r ≡ get_or rs (id - 1) r → s ≡ get_or rs (id - 1) s
    → lifetime ≡ record { since = s.contract.lifetime.since; until = Some (end_by moment s.contract.lifetime.until) }
    → new ≡ set rs (id - 1) (record r { contract = record r.contract { lifetime = lifetime } })
    → new ≡ changed id (ending_by (max newest at)) rs
past-ended rs newest at moment id new r s lifetime is_moment numbered least most here there is_lifetime is =
    let inside : id - 1 < length rs = omega (arith, least, most) in
    let same : s ≡ r = there ∙ get_or_default rs (id - 1) s r inside ∙ sym here in
    let ending : lifetime ≡ (ended moment r.contract).lifetime = is_lifetime ∙ ap (λ x. (ended moment x.contract).lifetime) same in
    let place : id ≡ (id - 1) + 1 = omega (arith, least) in
    is ∙ ap (λ span. set rs (id - 1) (record r { contract = record r.contract { lifetime = span } })) ending
    ∙ set-changed id (ending_by moment) (id - 1) rs r numbered place inside here
    ∙ ap (λ n. changed id (ending_by n) rs) is_moment

pub past-out : (rs : List Reservation) (newest at moment id : ℕ) (new : List Reservation) (r : Reservation) → moment ≡ max newest at
    → IsNumbered 0 rs → 1 ≤ id → id ≤ length rs → r ≡ get_or rs (id - 1) r
    → new ≡ set rs (id - 1) (record r { retirement = Some moment })
    → new ≡ changed id (retired_at (max newest at)) rs
past-out rs newest at moment id new r is_moment numbered least most here is =
    let inside : id - 1 < length rs = omega (arith, least, most) in
    let place : id ≡ (id - 1) + 1 = omega (arith, least) in
    is ∙ set-changed id (retired_at moment) (id - 1) rs r numbered place inside here ∙ ap (λ n. changed id (retired_at n) rs) is_moment

-- a past of two parts
pub past-parts : (p q : Past) → p.newest ≡ q.newest → p.granted ≡ q.granted → p ≡ q
past-parts p q newest granted = ap (λ n. record { newest = n; granted = p.granted }) newest ∙ ap (λ rs. record { newest = q.newest; granted = rs }) granted

-- a change that leaves each contract's way as it is leaves the routes
pub routes-changed : (d : Domain) (id : ℕ) (change : Reservation → Reservation) (rs : List Reservation) → ((r : Reservation) → route_in d (change r) ≡ route_in d r)
    → routes_in d (changed id change rs) ≡ routes_in d rs
routes-changed d id change [] same = refl
routes-changed d id change (r ∷ rs) same = elim (cases_Bool (nat_eq id (id_of r))) [
  | inl is ↦ rw is (ap (λ route. route ∷ routes_in d (changed id change rs)) (same r) ∙ ap (λ routes. route_in d r ∷ routes) (routes-changed d id change rs same))
  | inr is ↦ rw is (ap (λ routes. route_in d r ∷ routes) (routes-changed d id change rs same))
]
