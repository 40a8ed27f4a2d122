-- A source that is told to be over its envelope is the first that is, with the first of its packets.
use Rattle.std.proofs.Common.{◌≡◌, ℕ, zero, suc, ◌+◌, true, List, [], ◌∷◌, ◌++◌, take, drop, Option, None, Some, refl, sym, ap, ◌∙◌, arith, slice_get, option_map, option_and_then}
use Rattle.std.specs.Map.{keys_of}
use Rattle.std.proofs.lemmas.List.{take-map}
use Rattle.std.proofs.lemmas.List.Elements.{All-cons, All-nil, All-take, All-weaker}
use Rattle.moment_core.specs.Columns.{counts, each_column}
use Rattle.moment_core.specs.declared.column.Column.{Column}
use Rattle.envelope_core.specs.Curve.{Curve, KeepsCurve}
use Rattle.envelope_core.specs.LeakyBucket.{overflow_of}
use Rattle.envelope_core.proofs.LeakyBuckets.{buckets_tell_all}
use Rattle.ds_domain_base.specs.declared.contract.Contract.{Contract}
use Rattle.ds_domain_base.specs.declared.terms.Terms.{Terms}
use Rattle.ds_domain_base.specs.declared.terms.Terms.TheVariants.{Trusted, Policed}
use Rattle.ds_certificate.specs.Columns.{envelope_in}
use Rattle.ds_certificate.specs.Sources.{source_of}
use Rattle.meter_fabric_base.specs.Grounds.{Ground, contract_of}
use Rattle.run_audit.specs.Premises.{IsTrusted, KeepsIn}
use Rattle.run_audit.specs.Runs.{IsRun, Passage, Run}
use Rattle.run_audit.specs.Sendings.{passages_of, sending_of, sent_items}
use Rattle.run_audit.specs.Laws.{IsFirstOver, StandsBehind}
use Rattle.run_audit.specs.Verdicts.{first_found, first_of, over_at, over_by, over_in, overflowing, sent_in, verdict_of, was_sent_as}
use Rattle.run_audit.specs.declared.verdict.Verdict.{Verdict}
use Rattle.run_audit.specs.declared.verdict.Verdict.TheVariants.{SourceOver}
use Rattle.run_audit.proofs.PremiseLaws.{source_told}
use Rattle.run_audit.proofs.PremiseSourceLaws.{KeepsTrusted, at_tells, in_tells, item_of, items_counted, items_sent, items_sorted, sent_counted}

-- ---- what is found along a list is found at an element, and at none that stands before

found_behind : {A B : Type 0} (find : A → Option B) (xs : List A) (v : B) → first_found find xs ≡ Some v
    → (x : A) × (find x ≡ Some v) × StandsBehind (λ y. find y ≡ None) xs x
unfolding first_found
found_behind find [] v e = absurd cc
found_behind {A} {B} find (x ∷ xs) v e = by_look (find x) refl e (found_behind find xs v)
  where
    by_look : (here : Option B) → find x ≡ here → first_of here (first_found find xs) ≡ Some v
        → (first_found find xs ≡ Some v → (z : A) × (find z ≡ Some v) × StandsBehind (λ y. find y ≡ None) xs z)
        → (z : A) × (find z ≡ Some v) × StandsBehind (λ y. find y ≡ None) (x ∷ xs) z
    by_look (Some w) is found behind = (x, is ∙ found, ([], xs, refl, All-nil (λ y. find y ≡ None)))
    by_look None is found behind =
        let (z, own, (front, rest, at, none)) = behind found in
        (z, own, (x ∷ front, rest, ap (λ ys. x ∷ ys) at, All-cons (λ y. find y ≡ None) x front is none))

-- behind others that are as they should be, where nothing is found at one that is
stands_behind : {A B : Type 0} (find : A → Option B) (P : A → Type 0) (xs : List A) (x : A) → ((y : A) → find y ≡ None → P y)
    → StandsBehind (λ y. find y ≡ None) xs x → StandsBehind P xs x
stands_behind find P xs x tells (front, rest, at, none) = (front, rest, at, All-weaker (λ y. find y ≡ None) P tells front none)

map_gave : {A B : Type 0} (f : A → B) (o : Option A) (v : B) → option_map f o ≡ Some v → (x : A) × (o ≡ Some x) × (f x ≡ v)
map_gave f None v e = absurd cc
map_gave f (Some x) v e = (x, refl, cc)

and_then_gave : {A B : Type 0} (f : A → Option B) (o : Option A) (v : B) → option_and_then f o ≡ Some v → (x : A) × (o ≡ Some x) × (f x ≡ Some v)
and_then_gave f None v e = absurd cc
and_then_gave f (Some x) v e = (x, refl, e)

-- ---- an element of a list, what stands before it, and what behind

parts_at : {A : Type 0} (xs : List A) (i : ℕ) (x : A) → slice_get xs i ≡ Some x → xs ≡ take i xs ++ x ∷ drop (suc i) xs
parts_at [] i x at = absurd cc
parts_at (y ∷ xs) zero x at = ap (λ z. z ∷ xs) cc
parts_at (y ∷ xs) (suc i) x at = ap (λ ys. y ∷ ys) (parts_at xs i x at)

front_with : {A : Type 0} (xs : List A) (i : ℕ) (x : A) → slice_get xs i ≡ Some x → take i xs ++ x ∷ [] ≡ take (suc i) xs
front_with [] i x at = absurd cc
front_with (y ∷ xs) zero x at = ap (λ z. z ∷ []) cc
front_with (y ∷ xs) (suc i) x at = ap (λ ys. y ∷ ys) (front_with xs i x at)

-- ---- the first packet that is over

-- the items of the first packets are the first of the items
front_items : (column : Column) (c : Contract) (ps : List Passage) (n : ℕ) → IsTrusted c.terms
    → sent_items (counts column) c (take n (sent_in column c ps)) ≡ take n (sent_items (counts column) c (sent_in column c ps))
front_items column c ps n trusted =
    let sent = sent_in column c ps in
    items_counted column c (take n sent) trusted (All-take (λ p. was_sent_as (counts column) (sending_of c p) ≡ true) n sent (sent_counted column c ps))
    ∙ sym (take-map item_of n sent)
    ∙ ap (take n) (sym (items_sent column c ps trusted))

-- where the bucket overflows first, the packets before keep the envelope, and do not with the one there
first_leaves : (curve : Curve) (column : Column) (c : Contract) (ps : List Passage) (place : ℕ) (p : Passage) → IsTrusted c.terms
    → overflow_of curve.rate curve.burst (sent_items (counts column) c (sent_in column c ps)) ≡ Some place → slice_get (sent_in column c ps) place ≡ Some p
    → KeepsCurve curve (sent_items (counts column) c (take place (sent_in column c ps)))
    × ¬ KeepsCurve curve (sent_items (counts column) c (take place (sent_in column c ps) ++ p ∷ []))
first_leaves curve column c ps place p trusted over there =
    let beyond = (buckets_tell_all curve.rate curve.burst _ (items_sorted column c ps trusted)).1 place over in
    let next : suc place ≡ place + 1 = omega arith in (
      rw (front_items column c ps place trusted) beyond.1,
      rw (front_with (sent_in column c ps) place p there, front_items column c ps (suc place) trusted, next) beyond.2,
    )

by_terms : (g : Ground) (run : Run) (flow : ℕ) (c : Contract) (terms : Terms) (v : Verdict) → over_by terms g run flow c ≡ Some v
    → IsTrusted terms × (first_found (over_in g run flow c) each_column ≡ Some v)
by_terms g run flow c (Trusted committed peak) v e = (tt, e)
by_terms g run flow c (Policed parameters mode) v e = absurd cc

first_over : (g : Ground) (run : Run) (v : Verdict) (flow : ℕ) (column : Column) (number : ℕ) → v ≡ SourceOver flow column number
    → first_found (over_at g run) (keys_of g.contracts) ≡ Some v → IsFirstOver g run flow column number
first_over g run v flow column number is e =
    let (f, at_flow, flows) = found_behind (over_at g run) (keys_of g.contracts) v e in
    let (c, agreed, by) = and_then_gave (λ c. over_by c.terms g run f c) (contract_of g f) v at_flow in
    let (trusted, along) = by_terms g run f c c.terms v by in
    let (col, in_column, columns) = found_behind (over_in g run f c) each_column v along in
    let curve = envelope_in col (source_of g.domain c) in
    let ps = passages_of f run in
    let sent = sent_in col c ps in
    let (p, over, told) = map_gave (λ p. SourceOver f col p.packet.number) (overflowing curve col c sent) v in_column in
    let (place, overflow, there) = and_then_gave (slice_get sent) (overflow_of curve.rate curve.burst (sent_items (counts col) c sent)) p over in
    let leaves = first_leaves curve col c ps place p trusted overflow there in
    let same : SourceOver f col p.packet.number ≡ SourceOver flow column number = told ∙ is in
    let same_flow : f ≡ flow = cc in
    let same_column : col ≡ column = cc in
    let same_number : p.packet.number ≡ number = cc in
    rw (← same_flow, ← same_column) (record {
      contract = c;
      agreed = agreed;
      trusted = trusted;
      flows = stands_behind (over_at g run) (KeepsTrusted g run) (keys_of g.contracts) f (λ y. (at_tells g run y).0) flows;
      columns = stands_behind (over_in g run f c) (KeepsIn g c ps) each_column col (λ y. (in_tells g run f c y trusted).0) columns;
      front = take place sent;
      passage = p;
      rest = drop (suc place) sent;
      sent = parts_at sent place p there;
      named = same_number;
      kept = leaves.0;
      broken = leaves.1;
    })

pub first_over_is_told : (g : Ground) (run : Run) (flow : ℕ) (column : Column) (number : ℕ) → IsRun g run
    → verdict_of g run ≡ SourceOver flow column number → IsFirstOver g run flow column number
first_over_is_told g run flow column number is_run e =
    let v = SourceOver flow column number in
    first_over g run v flow column number refl (source_told g run v refl e)
