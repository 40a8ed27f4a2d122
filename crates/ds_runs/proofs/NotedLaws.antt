-- What is kept of packets that are sent tells their verdict.
use Rattle.std.proofs.Common.{◌≡◌, ◌≤◌, ◌+◌, ◌-◌, ◌*◌, ℕ, zero, suc, Bool, true, false, cond, List, [], ◌∷◌, map, take, Option, None, Some, refl, sym, ap, subst, ◌∙◌, arith, ◌&&◌, AllPairs, nat_eq, nat_lt, slice_get, slice_set, option_map, option_and_then, if◌then◌else◌}
use Rattle.std.specs.List.{All, enumerate_from}
use Rattle.std.proofs.lemmas.Bool.Decides.{nat_tests}
use Rattle.std.proofs.lemmas.List.Elements.{All-head}
use Rattle.std.proofs.lemmas.List.Kept.{AllPairs-filter}
use Rattle.std.proofs.lemmas.Option.{slice_get-map}
use Rattle.moment_core.specs.Columns.{counts, each_column}
use Rattle.moment_core.specs.Metering.{used}
use Rattle.moment_core.specs.declared.column.Column.{Column}
use Rattle.moment_core.specs.declared.column.Column.TheVariants.{Green, Excess}
use Rattle.moment_core.specs.declared.column.Column.TheVariants as columns
use Rattle.envelope_core.specs.Curve.{Curve}
use Rattle.envelope_core.specs.LeakyBucket.{filled, overflow_from}
use Rattle.ds_domain_base.specs.Sent.{came}
use Rattle.ds_domain_base.specs.declared.contract.Contract.{Contract}
use Rattle.ds_domain_base.specs.declared.terms.Terms.{Terms}
use Rattle.ds_domain_base.specs.declared.terms.Terms.TheVariants.{Trusted, Policed}
use Rattle.ds_certificate.specs.Columns.{envelope_in}
use Rattle.ds_certificate.specs.Sources.{source_of}
use Rattle.ds_certificate.specs.declared.source.Source.{Source}
use Rattle.ds_checker.specs.Acceptance.{Table}
use Rattle.meter_fabric_base.proofs.GroundLaws.{found_at}
use Rattle.meter_fabric_base.specs.Grounds.{contract_of, ground_of, most_flows}
use Rattle.run_audit.proofs.SourceLaws.{found-next, overflow-next}
use Rattle.run_audit.specs.Verdicts.{first_found, first_of}
use Rattle.run_audit.specs.declared.verdict.Verdict.TheVariants.{SourceOver}
use Rattle.ds_conductor_base.specs.Streams.{rise_from}
use Rattle.ds_conductor_base.specs.declared.sent.Sent.{Sent}
use Rattle.ds_runs.specs.Judged.{is_counted, item_of, outside_in, over_at, over_by, over_in, sent_in}
use Rattle.ds_runs.specs.Judging.{Judging, buckets_by, empty, empty_each, noted, silent, spoken, spoken_at, spoken_by, told_at, told_in, told_of, unjudged, verdict_now, verdict_with, watch_in, watched, watched_by, watched_each, watched_with}
use Rattle.ds_runs.specs.declared.sender.Buckets.{Buckets}
use Rattle.ds_runs.specs.declared.sender.Sender.{Sender}
use Rattle.ds_runs.specs.declared.watch.Watch.{Watch}
use Rattle.ds_runs.proofs.ListLaws.{set_here, set_there}
use Rattle.ds_runs.proofs.PairLaws.{found_each}
use Rattle.ds_runs.proofs.VerdictLaws.{moments_rise}

-- ---- packets one after the other

unfoldable pub noted_all : Judging → List Sent → Judging
noted_all j [] = j
noted_all j (s ∷ sent) = noted_all (noted j s) sent

pub told_now : (j : Judging) (sent : List Sent) → verdict_with j sent ≡ verdict_now (noted_all j sent)
unfolding verdict_with noted_all
told_now j [] = refl
told_now j (s ∷ sent) = told_now (noted j s) sent

pub same_table : (j : Judging) (sent : List Sent) → (noted_all j sent).table ≡ j.table
unfolding noted_all
same_table j [] = refl
same_table j (s ∷ sent) = same_table (noted j s) sent

-- ---- time

nothing_behind : {A : Type 0} (o : Option A) → o ≡ first_of o None
nothing_behind None = refl
nothing_behind (Some x) = refl

first_again : {A : Type 0} (a b c : Option A) → first_of (first_of a b) c ≡ first_of a (first_of b c)
first_again None b c = refl
first_again (Some x) b c = refl

pub outside_noted : (j : Judging) (sent : List Sent) → (noted_all j sent).outside ≡ first_of j.outside (first_found (outside_in j.table) sent)
unfolding noted_all first_found
outside_noted j [] = nothing_behind j.outside
outside_noted j (s ∷ sent) = outside_noted (noted j s) sent ∙ first_again j.outside (outside_in j.table s) (first_found (outside_in j.table) sent)

-- ---- an element of a list in which another is set

set_nowhere : {A : Type 0} (xs : List A) (i k : ℕ) (v : A) → slice_get xs k ≡ None → slice_get (slice_set xs i v) k ≡ None
set_nowhere [] i k v none = refl
set_nowhere (y ∷ ys) zero zero v none = absurd cc
set_nowhere (y ∷ ys) zero (suc k) v none = none
set_nowhere (y ∷ ys) (suc i) zero v none = absurd cc
set_nowhere (y ∷ ys) (suc i) (suc k) v none = set_nowhere ys i k v none

pub is_equal : (m n : ℕ) → nat_eq m n ≡ true → m ≡ n
is_equal m n same = grind (arith, nat_tests)

-- ---- contracts

-- a packet more for the contract of a flow
abbrev heard : ℕ → Contract → Sent → Sender → Sender
heard flow c s sender = if nat_eq s.flow flow then spoken c s sender else sender

unfoldable heard_all : ℕ → Contract → List Sent → Sender → Sender
heard_all flow c [] sender = sender
heard_all flow c (s ∷ sent) sender = heard_all flow c sent (heard flow c s sender)

-- a packet of another contract changes nothing
pub spoken_there : (senders : List Sender) (s : Sent) (flow : ℕ) (found : Option Contract) → nat_eq s.flow flow ≡ false
    → slice_get (spoken_by senders s found) flow ≡ slice_get senders flow
spoken_there senders s flow None apart = refl
spoken_there senders s flow (Some c) apart = by_found (slice_get senders s.flow)
  where
    by_found : (found : Option Sender) → slice_get (spoken_at senders s.flow c s found) flow ≡ slice_get senders flow
    by_found None = refl
    by_found (Some sender) = set_there senders s.flow flow (spoken c s sender) apart

heard_at : (t : Table) (senders : List Sender) (s : Sent) (flow : ℕ) (c : Contract) → contract_of (ground_of t) flow ≡ Some c
    → slice_get (spoken_by senders s (contract_of (ground_of t) s.flow)) flow ≡ option_map (heard flow c s) (slice_get senders flow)
heard_at t senders s flow c known = by_test (nat_eq s.flow flow) refl
  where
    kept : (o : Option Sender) → o ≡ option_map (λ sender. sender) o
    kept None = refl
    kept (Some sender) = refl

    here : (found : Option Sender) → slice_get senders s.flow ≡ found → slice_get (spoken_at senders s.flow c s found) s.flow ≡ option_map (spoken c s) found
    here None at = at
    here (Some sender) at = set_here senders s.flow sender (spoken c s sender) at

    by_test : (b : Bool) → nat_eq s.flow flow ≡ b
        → slice_get (spoken_by senders s (contract_of (ground_of t) s.flow)) flow ≡ option_map (λ sender. if b then spoken c s sender else sender) (slice_get senders flow)
    by_test true same =
        let is : s.flow ≡ flow = is_equal s.flow flow same in
        ap (λ found. slice_get (spoken_by senders s found) flow) (ap (contract_of (ground_of t)) is ∙ known)
        ∙ subst (λ n. slice_get (spoken_at senders s.flow c s (slice_get senders s.flow)) n ≡ option_map (spoken c s) (slice_get senders n)) is (here (slice_get senders s.flow) refl)
    by_test false apart = spoken_there senders s flow (contract_of (ground_of t) s.flow) apart ∙ kept (slice_get senders flow)

heard_fused : (o : Option Sender) (f g : Sender → Sender) → option_map f (option_map g o) ≡ option_map (λ x. f (g x)) o
heard_fused None f g = refl
heard_fused (Some x) f g = refl

sender_noted : (j : Judging) (sent : List Sent) (flow : ℕ) (c : Contract) → contract_of (ground_of j.table) flow ≡ Some c
    → slice_get (noted_all j sent).senders flow ≡ option_map (heard_all flow c sent) (slice_get j.senders flow)
unfolding noted_all heard_all
sender_noted j [] flow c known = kept (slice_get j.senders flow)
  where
    kept : (o : Option Sender) → o ≡ option_map (λ sender. sender) o
    kept None = refl
    kept (Some sender) = refl
sender_noted j (s ∷ sent) flow c known =
    sender_noted (noted j s) sent flow c known
    ∙ ap (option_map (heard_all flow c sent)) (heard_at j.table j.senders s flow c known)
    ∙ heard_fused (slice_get j.senders flow) (heard_all flow c sent) (heard flow c s)

none_spoken : (senders : List Sender) (s : Sent) (flow : ℕ) (found : Option Contract) → slice_get senders flow ≡ None → slice_get (spoken_by senders s found) flow ≡ None
none_spoken senders s flow None none = none
none_spoken senders s flow (Some c) none = by_found (slice_get senders s.flow)
  where
    by_found : (found : Option Sender) → slice_get (spoken_at senders s.flow c s found) flow ≡ None
    by_found None = none
    by_found (Some sender) = set_nowhere senders s.flow flow (spoken c s sender) none

none_noted : (j : Judging) (sent : List Sent) (flow : ℕ) → slice_get j.senders flow ≡ None → slice_get (noted_all j sent).senders flow ≡ None
unfolding noted_all
none_noted j [] flow none = none
none_noted j (s ∷ sent) flow none = none_noted (noted j s) sent flow (none_spoken j.senders s flow (contract_of (ground_of j.table) s.flow) none)

pub values_shown : {A B : Type 0} (f : A → B) (n : ℕ) (xs : List A) → map (λ e. f e.1) (enumerate_from n xs) ≡ map f xs
values_shown f n [] = refl
values_shown {A} {B} f n (x ∷ xs) = ap (λ (ys : List B). f x ∷ ys) (values_shown f (n + 1) xs)

pub silent_at : (t : Table) (flow : ℕ) → slice_get (unjudged t).senders flow ≡ option_map (silent t.domain) (contract_of (ground_of t) flow)
silent_at t flow =
    ap (λ (senders : List Sender). slice_get senders flow) (values_shown (silent t.domain) 0 (take most_flows t.contracts))
    ∙ slice_get-map (silent t.domain) (take most_flows t.contracts) flow
    ∙ ap (option_map (silent t.domain)) (sym (found_at t flow))

-- ---- buckets

unfoldable watched_all : List Sent → Watch → Watch
watched_all [] w = w
watched_all (s ∷ sent) w = watched_all sent (watched w s)

over_stays : (sent : List Sent) (w : Watch) (packet : ℕ) → w.over ≡ Some packet → (watched_all sent w).over ≡ Some packet
unfolding watched_all
over_stays [] w packet is = is
over_stays (s ∷ sent) w packet is = ap (λ (o : Option ℕ). (watched_all sent (watched_by o w s)).over) is ∙ over_stays sent w packet is

used_later : (newest moment : ℕ) → newest ≤ moment → used newest moment ≡ moment
unfolding used
used_later newest moment up = by_test (nat_lt newest moment) refl
  where
    by_test : (b : Bool) → nat_lt newest moment ≡ b → (if b then moment else newest) ≡ moment
    by_test true after = refl
    by_test false before = let down : moment ≤ newest = grind (arith, nat_tests) in omega (arith, down, up)

-- what a bucket tells of packets that are sent at moments that do not fall
bucket_tells : (curve : Curve) (level since : ℕ) (sent : List Sent) → All (λ s. since ≤ s.moment) sent → AllPairs (λ s r. s.moment ≤ r.moment) sent
    → (watched_all sent (record { bucket = record { curve = curve; level = level; since = since }; over = None })).over
    ≡ option_map (λ s. s.packet) (option_and_then (slice_get sent) (overflow_from curve.rate curve.burst level since 0 (map item_of sent)))
unfolding watched_all overflow_from
bucket_tells curve level since [] from rises = refl
bucket_tells curve level since (s ∷ sent) from rises =
    ap (λ (m : ℕ). (watched_all sent (watched_with (record { curve = curve; level = level; since = since }) s.packet (m, s.size))).over) (used_later since s.moment (All-head (λ r. since ≤ r.moment) s sent from))
    ∙ by_test (nat_lt (8000000000 * curve.burst) (filled curve.rate level since (s.moment, s.size)))
    (bucket_tells curve (filled curve.rate level since (s.moment, s.size)) s.moment sent
    (λ k d short. rises 0 (suc k) d (omega arith) (omega (arith, short)))
    (λ i j d below short. rises (suc i) (suc j) d (omega (arith, below)) (omega (arith, short))))
  where
    next : (level' : ℕ) → option_map (λ r. r.packet) (option_and_then (slice_get sent) (overflow_from curve.rate curve.burst level' s.moment 0 (map item_of sent)))
        ≡ option_map (λ r. r.packet) (option_and_then (slice_get (s ∷ sent)) (overflow_from curve.rate curve.burst level' s.moment (0 + 1) (map item_of sent)))
    next level' =
        ap (option_map (λ (r : Sent). r.packet))
        (sym (found-next s sent (overflow_from curve.rate curve.burst level' s.moment 0 (map item_of sent)))
        ∙ ap (option_and_then (slice_get (s ∷ sent))) (sym (overflow-next curve.rate curve.burst level' s.moment 0 (0 + 1) (map item_of sent) (omega arith))))

    by_test : (b : Bool)
        → (watched_all sent (record { bucket = record { curve = curve; level = filled curve.rate level since (s.moment, s.size); since = s.moment }; over = None })).over
        ≡ option_map (λ r. r.packet) (option_and_then (slice_get sent) (overflow_from curve.rate curve.burst (filled curve.rate level since (s.moment, s.size)) s.moment 0 (map item_of sent)))
        → (watched_all sent (record {
          bucket = record { curve = curve; level = filled curve.rate level since (if b then (s.moment, 0) else (s.moment, s.size)); since = s.moment };
          over = if b then Some s.packet else None;
        })).over
        ≡ option_map (λ r. r.packet)
        (option_and_then (slice_get (s ∷ sent))
        (if b then Some 0 else overflow_from curve.rate curve.burst (filled curve.rate level since (s.moment, s.size)) s.moment (0 + 1) (map item_of sent)))
    by_test true further =
        let spilled : Watch = record { bucket = record { curve = curve; level = filled curve.rate level since (s.moment, 0); since = s.moment }; over = Some s.packet } in
        over_stays sent spilled s.packet refl
    by_test false further = further ∙ next (filled curve.rate level since (s.moment, s.size))

-- the buckets of the contract of a flow
unfoldable poured_all : ℕ → Contract → List Sent → Buckets → Buckets
poured_all flow c [] b = b
poured_all flow c (s ∷ sent) b = poured_all flow c sent (if nat_eq s.flow flow then watched_each (came c s.dscp) b s else b)

fused_buckets : (f g : Buckets → Buckets) (o : Option Buckets) → option_map f (option_map g o) ≡ option_map (λ b. f (g b)) o
fused_buckets f g None = refl
fused_buckets f g (Some b) = refl

abbrev heard_by : Bool → Contract → Sent → Sender → Sender
heard_by own c s sender = if own then spoken c s sender else sender

heard_buckets : (flow : ℕ) (c : Contract) (sent : List Sent) (sender : Sender) → (heard_all flow c sent sender).buckets ≡ option_map (poured_all flow c sent) sender.buckets
unfolding heard_all poured_all
heard_buckets flow c [] sender = kept sender.buckets
  where
    kept : (o : Option Buckets) → o ≡ option_map (λ b. b) o
    kept None = refl
    kept (Some b) = refl
heard_buckets flow c (s ∷ sent) sender = heard_buckets flow c sent (heard flow c s sender) ∙ by_test (nat_eq s.flow flow)
  where
    by_test : (own : Bool) → option_map (poured_all flow c sent) (heard_by own c s sender).buckets
        ≡ option_map (λ b. poured_all flow c sent (if own then watched_each (came c s.dscp) b s else b)) sender.buckets
    by_test true = fused_buckets (poured_all flow c sent) (λ b. watched_each (came c s.dscp) b s) sender.buckets
    by_test false = refl

column_poured : (column : Column) (flow : ℕ) (c : Contract) (sent : List Sent) (b : Buckets)
    → watch_in column (poured_all flow c sent b) ≡ watched_all (sent_in flow c column sent) (watch_in column b)
unfolding poured_all watched_all
column_poured column flow c [] b = refl
column_poured column flow c (s ∷ sent) b =
    column_poured column flow c sent (if nat_eq s.flow flow then watched_each (came c s.dscp) b s else b)
    ∙ ap (watched_all (sent_in flow c column sent)) (by_own (nat_eq s.flow flow) column)
    ∙ by_test (nat_eq s.flow flow && counts column (came c s.dscp))
  where
    by_own : (own : Bool) (column : Column) → watch_in column (if own then watched_each (came c s.dscp) b s else b)
        ≡ (if own && counts column (came c s.dscp) then watched (watch_in column b) s else watch_in column b)
    by_own true Green = refl
    by_own true columns.All = refl
    by_own true Excess = refl
    by_own false column = refl

    by_test : (counted : Bool) → watched_all (sent_in flow c column sent) (if counted then watched (watch_in column b) s else watch_in column b)
        ≡ watched_all (cond counted (s ∷ sent_in flow c column sent) (sent_in flow c column sent)) (watch_in column b)
    by_test true = refl
    by_test false = refl

empty_in : (column : Column) (source : Source) → watch_in column (empty_each source) ≡ empty (envelope_in column source)
empty_in Green source = refl
empty_in columns.All source = refl
empty_in Excess source = refl

column_tells : (t : Table) (sent : List Sent) (flow : ℕ) (c : Contract) → rise_from 0 sent ≡ true → (column : Column)
    → told_in flow (poured_all flow c sent (empty_each (source_of t.domain c))) column ≡ over_in t sent flow c column
column_tells t sent flow c rises column =
    let curve = envelope_in column (source_of t.domain c) in
    let own = sent_in flow c column sent in
    ap (λ (w : Watch). option_map (λ (n : ℕ). SourceOver flow column n) w.over)
    (column_poured column flow c sent (empty_each (source_of t.domain c)) ∙ ap (watched_all own) (empty_in column (source_of t.domain c)))
    ∙ ap (option_map (λ (n : ℕ). SourceOver flow column n))
    (bucket_tells curve 0 0 own (λ k d short. omega arith) (AllPairs-filter (λ s r. s.moment ≤ r.moment) (is_counted flow c column) sent (moments_rise 0 sent rises)))

terms_tell : (t : Table) (sent : List Sent) (flow : ℕ) (c : Contract) → rise_from 0 sent ≡ true → (terms : Terms)
    → option_and_then (λ b. first_found (told_in flow b) each_column) (option_map (poured_all flow c sent) (buckets_by terms (source_of t.domain c)))
    ≡ over_by terms t sent flow c
terms_tell t sent flow c rises (Trusted committed peak) =
    found_each (told_in flow (poured_all flow c sent (empty_each (source_of t.domain c)))) (over_in t sent flow c) each_column (column_tells t sent flow c rises)
terms_tell t sent flow c rises (Policed parameters mode) = refl

pub sender_tells : (t : Table) (sent : List Sent) → rise_from 0 sent ≡ true → (flow : ℕ) → told_at (noted_all (unjudged t) sent).senders flow ≡ over_at t sent flow
sender_tells t sent rises flow = by_found (contract_of (ground_of t) flow) refl
  where
    by_found : (found : Option Contract) → contract_of (ground_of t) flow ≡ found
        → told_at (noted_all (unjudged t) sent).senders flow ≡ option_and_then (λ c. over_by c.terms t sent flow c) found
    by_found None known =
        ap (option_and_then (told_of flow)) (none_noted (unjudged t) sent flow (silent_at t flow ∙ ap (option_map (silent t.domain)) known))
    by_found (Some c) known =
        ap (option_and_then (told_of flow))
        (sender_noted (unjudged t) sent flow c known ∙ ap (option_map (heard_all flow c sent)) (silent_at t flow ∙ ap (option_map (silent t.domain)) known))
        ∙ ap (option_and_then (λ b. first_found (told_in flow b) each_column)) (heard_buckets flow c sent (silent t.domain c))
        ∙ terms_tell t sent flow c rises c.terms
