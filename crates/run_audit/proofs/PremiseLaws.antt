-- The verdict on a run is that it is kept exactly where it meets the premises.
use Rattle.std.proofs.Common.{◌≡◌, ℕ, suc, ◌+◌, ◌<◌, ◌≤◌, ◌↔◌, true, List, [], ◌∷◌, Option, None, refl, ⊎_elim, get_or, sym, ap, ◌∙◌, arith, Some, nat_le, nat_lt, option_and_then, Contains, All}
use Rattle.std.proofs.lemmas.Bool.{false≢true}
use Rattle.std.proofs.lemmas.Bool.Decides.{nat_tests}
use Rattle.std.proofs.lemmas.List.Elements.{All-contains}
use Rattle.std.proofs.lemmas.List.Sorted.{Contains-permutation, IsPermutation-sym}
use Rattle.std.proofs.lemmas.Option.{none-some}
use Rattle.std.specs.Option.{ForSome, option_map_or}
use Rattle.meter_book.specs.Replay.{Journal, journal_rows}
use Rattle.meter_book.specs.declared.row.Row.{Row}
use Rattle.ds_domain_base.specs.Domains.{Domain, floor_of, jitter_of, link_of}
use Rattle.ds_domain_base.specs.declared.contract.Contract.{Contract}
use Rattle.ds_domain_base.specs.declared.parts.Link.{Link}
use Rattle.meter_fabric_base.specs.Grounds.{Ground, contract_of}
use Rattle.meter_fabric_base.specs.declared.trail.Receipt.{Receipt}
use Rattle.run_audit.specs.Premises.{IsInTime, IsOver, IsTimely, KeepsLinks, KeepsSkews, KeepsTime, Premises}
use Rattle.run_audit.specs.Runs.{IsRun, Passage, Run}
use Rattle.run_audit.specs.Sendings.{ForSent, Sending, sending_of}
use Rattle.run_audit.specs.Laws.{IsLeastWithout, IsSentSo}
use Rattle.meter_fabric_base.specs.Orders.{in_order}
use Rattle.run_audit.specs.Verdicts.{against_sent, delayed, first_found, first_of, is_numbered_before, is_over, late_row, link_of_run, may_send, outside, skew_of_run, source_of_run, time_of, untimely, verdict_of}
use Rattle.run_audit.specs.declared.verdict.Verdict.{Verdict}
use Rattle.run_audit.specs.declared.verdict.Verdict.TheVariants.{Kept, OutsideContract, SourceOver, DelayOver, Late}
use Rattle.run_audit.proofs.MemberLaws.{front_or_rest, in_front, in_rest}
use Rattle.meter_fabric_base.proofs.OrderLaws.{Ascends, in_order-ascends, in_order-permutes}
use Rattle.run_audit.proofs.SortLaws.{either_way, key_order}
use Rattle.run_audit.proofs.PremiseFoundLaws.{Gives, IsOf, and_tells, and_then-gives, and_then-none, first_found-gives, first_gave, first_of-gives, first_of-none, if_tells, iff_trans, kept_is_none, le_tells, lt_tells, map-gives, map-none, none_along, none_in_order, of_another, premise_of, rest_gave, some_tells, unless-gives, unless_tells, verdict_found}
use Rattle.run_audit.proofs.PremiseSourceLaws.{source-gives, source_tells}

-- ---- packets that were sent

against_tells : (g : Ground) (find : Contract → Sending → Option Verdict) (P : Contract → Sending → Type 0) (p : Passage)
    → ((c : Contract) (s : Sending) → (find c s ≡ None) ↔ P c s)
    → (against_sent g find p ≡ None) ↔ ForSome (contract_of g p.packet.flow) (λ c. ForSome (sending_of c p) (P c))
against_tells g find P p each =
    and_then-none (λ c. option_and_then (find c) (sending_of c p)) (λ c. ForSome (sending_of c p) (P c)) (contract_of g p.packet.flow)
    (λ c. and_then-none (find c) (P c) (sending_of c p) (each c))

against-gives : (P : Verdict → Type 0) (g : Ground) (find : Contract → Sending → Option Verdict) (p : Passage) → ((c : Contract) (s : Sending) → Gives P (find c s)) → Gives P (against_sent g find p)
against-gives P g find p each =
    and_then-gives P (λ c. option_and_then (find c) (sending_of c p)) (contract_of g p.packet.flow)
    (λ c. and_then-gives P (find c) (sending_of c p) (each c))

-- nothing is found against the packets of a run where each that was sent is as it should be
sent_tells : (g : Ground) (run : Run) (find : ℕ → Contract → Sending → Option Verdict) (P : Contract → Sending → Type 0)
    → ((n : ℕ) (c : Contract) (s : Sending) → (find n c s ≡ None) ↔ P c s)
    → (first_found (λ p. against_sent g (find p.packet.number) p) (in_order is_numbered_before run.passages) ≡ None) ↔ ForSent g run P
sent_tells g run find P each =
    none_in_order is_numbered_before (λ p. against_sent g (find p.packet.number) p) (λ p. ForSome (contract_of g p.packet.flow) (λ c. ForSome (sending_of c p) (P c))) run.passages
    (λ p. against_tells g (find p.packet.number) P p (each p.packet.number))

-- ---- time

outside_tells : (n : ℕ) (c : Contract) (s : Sending) → (outside n c s ≡ None) ↔ IsInTime c s
outside_tells n c s =
    unless_tells (may_send c.lifetime s.moment) (OutsideContract n)
    (and_tells (nat_le c.lifetime.since s.moment) (option_map_or (λ until. nat_lt s.moment until) c.lifetime.until true)
    (le_tells c.lifetime.since s.moment)
    (some_tells (λ until. nat_lt s.moment until) (λ until. s.moment < until) c.lifetime.until (λ until. lt_tells s.moment until)))

time_tells : (g : Ground) (run : Run) → (time_of g run ≡ None) ↔ KeepsTime g run
time_tells g run = sent_tells g run outside IsInTime outside_tells

-- what is found is of that packet
pub outside-gives : (n : ℕ) (c : Contract) (s : Sending) → Gives (λ v. v ≡ OutsideContract n) (outside n c s)
outside-gives n c s = unless-gives (λ v. v ≡ OutsideContract n) (may_send c.lifetime s.moment) (OutsideContract n) refl

time-gives : (g : Ground) (run : Run) → IsOf 1 (time_of g run)
time-gives g run =
    first_found-gives (λ v. premise_of v ≡ 1) (λ p. against_sent g (outside p.packet.number) p) (in_order is_numbered_before run.passages)
    (λ p. against-gives (λ v. premise_of v ≡ 1) g (outside p.packet.number) p (λ c s v e. ap premise_of (outside-gives p.packet.number c s v e)))

-- ---- links

over_tells : (link : Option Link) (moment arrival : ℕ) → (is_over link moment arrival ≡ true) ↔ IsOver link moment arrival
over_tells link moment arrival =
    and_tells (nat_le (moment + floor_of link) arrival) (nat_le arrival (moment + floor_of link + jitter_of link))
    (le_tells (moment + floor_of link) arrival) (le_tells arrival (moment + floor_of link + jitter_of link))

untimely_tells : (d : Domain) (hop : ℕ) (from : List ℕ) (path : List (List ℕ)) (moment : ℕ) (receipts : List Receipt)
    → (untimely d hop from path moment receipts ≡ None) ↔ IsTimely d from path moment receipts
unfolding untimely IsTimely
untimely_tells d hop from path moment [] = (λ e. tt, λ timely. refl)
untimely_tells d hop from [] moment (r ∷ receipts) = (λ e. tt, λ timely. refl)
untimely_tells d hop from (to ∷ path) moment (r ∷ receipts) =
    if_tells (is_over (link_of d from to) moment r.row.arrival) (untimely d (suc hop) to path r.row.arrival receipts) hop
    (over_tells (link_of d from to) moment r.row.arrival)
    (untimely_tells d (suc hop) to path r.row.arrival receipts)

delayed_tells : (g : Ground) (n : ℕ) (c : Contract) (s : Sending) → (delayed g.domain n c s ≡ None) ↔ IsTimely g.domain c.port c.path s.moment s.receipts
delayed_tells g n c s =
    iff_trans (map-none (λ hop. DelayOver n hop) (untimely g.domain 1 c.port c.path s.moment s.receipts))
    (untimely_tells g.domain 1 c.port c.path s.moment s.receipts)

link_tells : (g : Ground) (run : Run) → (link_of_run g run ≡ None) ↔ KeepsLinks g run
link_tells g run = sent_tells g run (delayed g.domain) (λ c s. IsTimely g.domain c.port c.path s.moment s.receipts) (delayed_tells g)

-- what a verdict on a delay is of
abbrev pub IsDelayOf : ℕ → Verdict → Type 0
IsDelayOf n v = (hop : ℕ) × (v ≡ DelayOver n hop)

pub delayed-gives : (g : Ground) (n : ℕ) (c : Contract) (s : Sending) → Gives (IsDelayOf n) (delayed g.domain n c s)
delayed-gives g n c s = map-gives (IsDelayOf n) (λ hop. DelayOver n hop) (untimely g.domain 1 c.port c.path s.moment s.receipts) (λ hop. (hop, refl))

link-gives : (g : Ground) (run : Run) → IsOf 3 (link_of_run g run)
link-gives g run =
    first_found-gives (λ v. premise_of v ≡ 3) (λ p. against_sent g (delayed g.domain p.packet.number) p) (in_order is_numbered_before run.passages)
    (λ p. against-gives (λ v. premise_of v ≡ 3) g (delayed g.domain p.packet.number) p (λ c s v e. ap premise_of (delayed-gives g p.packet.number c s v e).1))

-- ---- skews

late_tells : (j : Journal) (r : Row) → (late_row j r ≡ None) ↔ (r.late ≤ j.skew)
late_tells j r = unless_tells (nat_le r.late j.skew) (Late j.site r.place r.late) (le_tells r.late j.skew)

skew_tells : (run : Run) → (skew_of_run run ≡ None) ↔ KeepsSkews run
skew_tells run =
    none_in_order (λ j k. nat_lt j.site k.site) (λ j. first_found (late_row j) (journal_rows j)) (λ j. All (λ r. r.late ≤ j.skew) (journal_rows j)) run.journals
    (λ j. none_along (late_row j) (λ r. r.late ≤ j.skew) (journal_rows j) (late_tells j))

late-gives : (j : Journal) (r : Row) → IsOf 4 (late_row j r)
late-gives j r = unless-gives (λ v. premise_of v ≡ 4) (nat_le r.late j.skew) (Late j.site r.place r.late) refl

skew-gives : (run : Run) → IsOf 4 (skew_of_run run)
skew-gives run =
    first_found-gives (λ v. premise_of v ≡ 4) (λ j. first_found (late_row j) (journal_rows j)) (in_order (λ j k. nat_lt j.site k.site) run.journals)
    (λ j. first_found-gives (λ v. premise_of v ≡ 4) (late_row j) (journal_rows j) (late-gives j))

-- ---- all of them

-- what is found against any premise, the first that there is
abbrev found_in : Ground → Run → Option Verdict
found_in g run = first_of (time_of g run) (first_of (source_of_run g run) (first_of (link_of_run g run) (skew_of_run run)))

found-other : (g : Ground) (run : Run) → Gives (λ w. ¬ (premise_of w ≡ 0)) (found_in g run)
found-other g run =
    let P = λ (w : Verdict). ¬ (premise_of w ≡ 0) in
    first_of-gives P (time_of g run) (first_of (source_of_run g run) (first_of (link_of_run g run) (skew_of_run run)))
    (of_another 0 1 (time_of g run) (λ e. omega (arith, e)) (time-gives g run))
    (first_of-gives P (source_of_run g run) (first_of (link_of_run g run) (skew_of_run run))
    (of_another 0 2 (source_of_run g run) (λ e. omega (arith, e)) (source-gives g run))
    (first_of-gives P (link_of_run g run) (skew_of_run run)
    (of_another 0 3 (link_of_run g run) (λ e. omega (arith, e)) (link-gives g run))
    (of_another 0 4 (skew_of_run run) (λ e. omega (arith, e)) (skew-gives run))))

found_tells : (g : Ground) (run : Run) → (found_in g run ≡ None) ↔ Premises g run
found_tells g run =
    let first = first_of-none (time_of g run) (first_of (source_of_run g run) (first_of (link_of_run g run) (skew_of_run run))) in
    let next = first_of-none (source_of_run g run) (first_of (link_of_run g run) (skew_of_run run)) in
    let last = first_of-none (link_of_run g run) (skew_of_run run) in (
      λ e.
          let a = first.0 e in
          let b = next.0 a.1 in
          let c = last.0 b.1 in
          record {
            time = (time_tells g run).0 a.0;
            source = (source_tells g run).0 b.0;
            link = (link_tells g run).0 c.0;
            skew = (skew_tells run).0 c.1;
          },
      λ premises.
          first.1 (
            (time_tells g run).1 premises.time,
            next.1 (
              (source_tells g run).1 premises.source,
              last.1 ((link_tells g run).1 premises.link, (skew_tells run).1 premises.skew),
            ),
          ),
    )

pub kept_is_premises : (g : Ground) (run : Run) → IsRun g run → (verdict_of g run ≡ Kept) ↔ Premises g run
kept_is_premises g run is_run = iff_trans (kept_is_none (found_in g run) (found-other g run)) (found_tells g run)

-- ---- a verdict is what was found against the premise that it is of

behind-gives : (g : Ground) (run : Run) (premise : ℕ) → ¬ (3 ≡ premise) → ¬ (4 ≡ premise) → Gives (λ w. ¬ (premise_of w ≡ premise)) (first_of (link_of_run g run) (skew_of_run run))
behind-gives g run premise link skew =
    first_of-gives (λ w. ¬ (premise_of w ≡ premise)) (link_of_run g run) (skew_of_run run)
    (of_another premise 3 (link_of_run g run) link (link-gives g run)) (of_another premise 4 (skew_of_run run) skew (skew-gives run))

time_told : (g : Ground) (run : Run) (v : Verdict) → premise_of v ≡ 1 → verdict_of g run ≡ v → time_of g run ≡ Some v
time_told g run v of e =
    first_gave 1 (time_of g run) (first_of (source_of_run g run) (first_of (link_of_run g run) (skew_of_run run))) v
    (first_of-gives (λ w. ¬ (premise_of w ≡ 1)) (source_of_run g run) (first_of (link_of_run g run) (skew_of_run run))
    (of_another 1 2 (source_of_run g run) (λ same. omega (arith, same)) (source-gives g run)) (behind-gives g run 1 (λ same. omega (arith, same)) (λ same. omega (arith, same))))
    of (verdict_found (found_in g run) v (λ none. omega (arith, none, of)) e)

-- and of a premise behind that of time
behind_told : (g : Ground) (run : Run) (v : Verdict) (premise : ℕ) → ¬ (premise ≡ 0) → ¬ (1 ≡ premise) → premise_of v ≡ premise → verdict_of g run ≡ v
    → first_of (source_of_run g run) (first_of (link_of_run g run) (skew_of_run run)) ≡ Some v
behind_told g run v premise found time of e =
    rest_gave premise (time_of g run) (first_of (source_of_run g run) (first_of (link_of_run g run) (skew_of_run run))) v
    (of_another premise 1 (time_of g run) time (time-gives g run)) of (verdict_found (found_in g run) v (λ none. found (sym of ∙ none)) e)

pub source_told : (g : Ground) (run : Run) (v : Verdict) → premise_of v ≡ 2 → verdict_of g run ≡ v → source_of_run g run ≡ Some v
source_told g run v of e =
    first_gave 2 (source_of_run g run) (first_of (link_of_run g run) (skew_of_run run)) v
    (behind-gives g run 2 (λ same. omega (arith, same)) (λ same. omega (arith, same))) of
    (behind_told g run v 2 (λ same. omega (arith, same)) (λ same. omega (arith, same)) of e)

link_told : (g : Ground) (run : Run) (v : Verdict) → premise_of v ≡ 3 → verdict_of g run ≡ v → link_of_run g run ≡ Some v
link_told g run v of e =
    first_gave 3 (link_of_run g run) (skew_of_run run) v (of_another 3 4 (skew_of_run run) (λ same. omega (arith, same)) (skew-gives run)) of
    (rest_gave 3 (source_of_run g run) (first_of (link_of_run g run) (skew_of_run run)) v
    (of_another 3 2 (source_of_run g run) (λ same. omega (arith, same)) (source-gives g run)) of
    (behind_told g run v 3 (λ same. omega (arith, same)) (λ same. omega (arith, same)) of e))

-- ---- the least packet that broke a premise

-- what is found first along a list that ascends by a key, and that nothing is found at lesser keys
least_found : {A : Type 0} (key : A → ℕ) (find : A → Option Verdict) (xs : List A) (v : Verdict) → Ascends (λ x y. nat_lt (key x) (key y)) xs → first_found find xs ≡ Some v
    → (x : A) × Contains xs x × (find x ≡ Some v) × ((y : A) → Contains xs y → key y < key x → find y ≡ None)
unfolding first_found Ascends
least_found key find [] v rises e = absurd cc
least_found {A} key find (x ∷ xs) v rises e = by_look (find x) refl e (least_found key find xs v rises.1)
  where
    lesser : (m n : ℕ) → nat_lt m n ≡ true → ¬ (n < m)
    lesser m n first below = false≢true (sym (grind (arith, nat_tests)) ∙ first)

    none_before : (y : A) → Contains (x ∷ xs) y → key y < key x → find y ≡ None
    none_before y has below =
        ⊎_elim
        (λ same. absurd (omega (arith, below, ap key same)))
        (λ rest. absurd (lesser (key x) (key y) (All-contains (λ z. nat_lt (key x) (key z) ≡ true) xs y rises.0 rest) below))
        (front_or_rest x y xs has)

    by_look : (here : Option Verdict) → find x ≡ here → first_of here (first_found find xs) ≡ Some v
        → (first_found find xs ≡ Some v → (z : A) × Contains xs z × (find z ≡ Some v) × ((y : A) → Contains xs y → key y < key z → find y ≡ None))
        → (z : A) × Contains (x ∷ xs) z × (find z ≡ Some v) × ((y : A) → Contains (x ∷ xs) y → key y < key z → find y ≡ None)
    by_look (Some w) is found behind = (x, in_front x xs, is ∙ found, none_before)
    by_look None is found behind =
        let (z, has, own, least) = behind found in (
          z,
          in_rest x z xs has,
          own,
          λ y has_y below. ⊎_elim (λ same. ap find (sym same) ∙ is) (λ rest. least y rest below) (front_or_rest x y xs has_y),
        )

numbers_ascend : (g : Ground) (run : Run) → IsRun g run → Ascends is_numbered_before (in_order is_numbered_before run.passages)
numbers_ascend g run is_run =
    in_order-ascends is_numbered_before (key_order (λ (p : Passage). p.packet.number)) run.passages
    (λ i j d below short. either_way (get_or run.passages i d).packet.number (get_or run.passages j d).packet.number (is_run.numbers i j d below short))

-- the packet at which a test finds something first, where it tells a packet by its number
least_without : (g : Ground) (run : Run) → IsRun g run → (find : ℕ → Contract → Sending → Option Verdict) (P : Contract → Sending → Type 0) (Tells : ℕ → Verdict → Type 0) (number : ℕ) (v : Verdict)
    → ((n : ℕ) (c : Contract) (s : Sending) → (find n c s ≡ None) ↔ P c s)
    → ((n : ℕ) (c : Contract) (s : Sending) → Gives (Tells n) (find n c s))
    → ((n : ℕ) → Tells n v → n ≡ number)
    → first_found (λ p. against_sent g (find p.packet.number) p) (in_order is_numbered_before run.passages) ≡ Some v
    → IsLeastWithout run (IsSentSo g P) number
least_without g run is_run find P Tells number v each gives names e =
    let test = λ (p : Passage). against_sent g (find p.packet.number) p in
    let sorted = in_order is_numbered_before run.passages in
    let (p, has, found, least) = least_found (λ (p : Passage). p.packet.number) test sorted v (numbers_ascend g run is_run) e in
    let tells = λ (q : Passage). against_tells g (find q.packet.number) P q (each q.packet.number) in
    let moved = in_order-permutes is_numbered_before run.passages in
    let named = names p.packet.number (against-gives (Tells p.packet.number) g (find p.packet.number) p (gives p.packet.number) v found) in
    record {
      passage = p;
      there = Contains-permutation sorted run.passages p (IsPermutation-sym run.passages sorted moved) has;
      named = named;
      broken = λ holds. none-some v (sym ((tells p).1 holds) ∙ found);
      least = λ q there below. (tells q).0 (least q (Contains-permutation run.passages sorted q moved there) (omega (arith, below, named)));
    }

packet_of : Verdict → ℕ
packet_of Kept = 0
packet_of (OutsideContract packet) = packet
packet_of (SourceOver flow column packet) = packet
packet_of (DelayOver packet hop) = packet
packet_of (Late site place late) = place

pub least_is_told : (g : Ground) (run : Run) (number : ℕ) → IsRun g run
    → (verdict_of g run ≡ OutsideContract number → IsLeastWithout run (IsSentSo g IsInTime) number)
    × ((hop : ℕ) → verdict_of g run ≡ DelayOver number hop
    → IsLeastWithout run (IsSentSo g (λ c s. IsTimely g.domain c.port c.path s.moment s.receipts)) number)
unfolding packet_of
least_is_told g run number is_run = (
  λ e.
      let v = OutsideContract number in
      least_without g run is_run outside IsInTime (λ n w. w ≡ OutsideContract n) number v outside_tells outside-gives
      (λ n told. sym (ap packet_of told)) (time_told g run v refl e),
  λ hop e.
      let v = DelayOver number hop in
      least_without g run is_run (delayed g.domain) (λ c s. IsTimely g.domain c.port c.path s.moment s.receipts) IsDelayOf number v (delayed_tells g) (delayed-gives g)
      (λ n told. sym (ap packet_of told.1)) (link_told g run v refl e),
)
