-- What is taken at a meter grows with each contract that is like another by as much.
use Rattle.std.proofs.Common.{arith, ◌≡◌, ℕ, zero, suc, ◌+◌, ◌-◌, ◌*◌, ◌≤◌, Bool, true, false, ◌&&◌, nat_eq, if◌then◌else◌, List, None, Some, refl, sym, ap, ◌∙◌}
use Rattle.std.proofs.lemmas.Bool.{and_from, and_parts, le-leb, leb-true}
use Rattle.std.proofs.lemmas.Bool.Decides.{nat_tests}
use Rattle.moment_core.specs.declared.column.Column.TheVariants.{Green, All, Excess}
use Rattle.envelope_core.specs.Curve.{Curve, widened}
use Rattle.ds_domain_base.specs.Parameters.{Parameters}
use Rattle.ds_domain_base.specs.Parameters.TheVariants.{SrTcm, TrTcm, Rfc4115}
use Rattle.ds_domain_base.specs.declared.parts.Meter.{Meter}
use Rattle.ds_checker.specs.Growths.{growth_by}
use Rattle.ds_checker.specs.Loads.{Share, kept}
use Rattle.ds_checker.specs.Sums.{counted_load, nothing, sum_tests, with_share}
use Rattle.ds_checker.specs.Tests.{first_failed}
use Rattle.ds_checker.specs.declared.load.Loads.{Loads}
use Rattle.ds_checker.proofs.AcceptanceLaws.{passed, passes}
use Rattle.ds_checker.proofs.BoundLaws.{none_failed}
use Rattle.ds_checker.specs.declared.headroom.Utilization.{Utilization}
use Rattle.ds_quotes.specs.Counts.{grows_within, has_room}
use Rattle.ds_quotes.proofs.AlikeLaws.{times}

-- ---- sums with so many shares more
abbrev pub add : Share → Loads → Loads
add share l = with_share l share

green_rate : (n : ℕ) (l : Loads) (s : Share) → (times n (add s) l).green.rate ≡ l.green.rate + n * (widened l.skew (kept Green s)).rate
green_rate zero l s = omega arith
green_rate (suc n) l s = omega (arith, green_rate n (add s l) s)

green_burst : (n : ℕ) (l : Loads) (s : Share) → (times n (add s) l).green.burst ≡ l.green.burst + n * (widened l.skew (kept Green s)).burst
green_burst zero l s = omega arith
green_burst (suc n) l s = omega (arith, green_burst n (add s l) s)

all_rate : (n : ℕ) (l : Loads) (s : Share) → (times n (add s) l).all.rate ≡ l.all.rate + n * (widened l.skew (kept All s)).rate
all_rate zero l s = omega arith
all_rate (suc n) l s = omega (arith, all_rate n (add s l) s)

all_burst : (n : ℕ) (l : Loads) (s : Share) → (times n (add s) l).all.burst ≡ l.all.burst + n * (widened l.skew (kept All s)).burst
all_burst zero l s = omega arith
all_burst (suc n) l s = omega (arith, all_burst n (add s l) s)

-- of yellow packets, where the contracts may send some, and else nothing more
peaked_rate : (n : ℕ) (l : Loads) (s : Share) → s.has_peak ≡ true → (times n (add s) l).peaked.rate ≡ l.peaked.rate + n * (widened l.skew (kept Excess s)).rate
peaked_rate zero l s peak = omega arith
peaked_rate (suc n) l s peak =
    let one : (add s l).peaked.rate ≡ l.peaked.rate + (widened l.skew (kept Excess s)).rate = ap (λ b. (if b then record { rate = l.peaked.rate + (widened l.skew (kept Excess s)).rate; burst = l.peaked.burst + (widened l.skew (kept Excess s)).burst } else l.peaked).rate) peak in
    omega (arith, peaked_rate n (add s l) s peak, one)

peaked_burst : (n : ℕ) (l : Loads) (s : Share) → s.has_peak ≡ true → (times n (add s) l).peaked.burst ≡ l.peaked.burst + n * (widened l.skew (kept Excess s)).burst
peaked_burst zero l s peak = omega arith
peaked_burst (suc n) l s peak =
    let one : (add s l).peaked.burst ≡ l.peaked.burst + (widened l.skew (kept Excess s)).burst = ap (λ b. (if b then record { rate = l.peaked.rate + (widened l.skew (kept Excess s)).rate; burst = l.peaked.burst + (widened l.skew (kept Excess s)).burst } else l.peaked).burst) peak in
    omega (arith, peaked_burst n (add s l) s peak, one)

peaked_same : (n : ℕ) (l : Loads) (s : Share) → s.has_peak ≡ false → (times n (add s) l).peaked ≡ l.peaked
peaked_same zero l s none = refl
peaked_same (suc n) l s none =
    peaked_same n (add s l) s none ∙ ap (λ b. if b then record { rate = l.peaked.rate + (widened l.skew (kept Excess s)).rate; burst = l.peaked.burst + (widened l.skew (kept Excess s)).burst } else l.peaked) none

-- the number of contracts that may is none, or it is not, as with the first of them
number_more : (n : ℕ) (l : Loads) (s : Share) → s.has_peak ≡ true → (times n (add s) l).peaked_number ≡ l.peaked_number + n
number_more zero l s peak = omega arith
number_more (suc n) l s peak =
    let one : (add s l).peaked_number ≡ l.peaked_number + 1 = ap (λ b. if b then l.peaked_number + 1 else l.peaked_number) peak in
    omega (arith, number_more n (add s l) s peak, one)

number_same : (n : ℕ) (l : Loads) (s : Share) → s.has_peak ≡ false → (times n (add s) l).peaked_number ≡ l.peaked_number
number_same zero l s none = refl
number_same (suc n) l s none = number_same n (add s l) s none ∙ ap (λ b. if b then l.peaked_number + 1 else l.peaked_number) none

is_none_by : (peak : Bool) (n : ℕ) (l : Loads) (s : Share) → s.has_peak ≡ peak
    → nat_eq (times n (add s) (add s l)).peaked_number 0 ≡ nat_eq (add s l).peaked_number 0
is_none_by true n l s is =
    let one : (add s l).peaked_number ≡ l.peaked_number + 1 = ap (λ b. if b then l.peaked_number + 1 else l.peaked_number) is in
    grind (arith, nat_tests, number_more n (add s l) s is, one)
is_none_by false n l s is = ap (λ m. nat_eq m 0) (number_same n (add s l) s is)

is_none : (n : ℕ) (l : Loads) (s : Share) → nat_eq (times n (add s) (add s l)).peaked_number 0 ≡ nat_eq (add s l).peaked_number 0
is_none n l s = is_none_by s.has_peak n l s refl

-- ---- a curve grows by as much each time
abbrev pub grown : ℕ → Curve → Curve → Curve
grown more one two = record { rate = one.rate + more * (two.rate - one.rate); burst = one.burst + more * (two.burst - one.burst) }

curve : (rate burst rate' burst' : ℕ) → rate ≡ rate' → burst ≡ burst' → ◌≡◌ {A = Curve} (record { rate = rate; burst = burst }) (record { rate = rate'; burst = burst' })
curve rate burst rate' burst' rates bursts =
    ap (λ r. let c : Curve = record { rate = r; burst = burst } in c) rates ∙ ap (λ b. let c : Curve = record { rate = rate'; burst = b } in c) bursts

linear : (n first next last part : ℕ) → next ≡ first + part → last ≡ first + n * part → last ≡ first + n * (next - first)
linear n first next last part is are =
    let same : next - first ≡ part = omega (arith, is) in
    are ∙ ap (λ p. first + n * p) (sym same)

green_grown : (n : ℕ) (l : Loads) (s : Share) → (times (suc n) (add s) l).green ≡ grown n (add s l).green (add s (add s l)).green
green_grown n l s = curve _ _ _ _
    (linear n (add s l).green.rate (add s (add s l)).green.rate _ (widened l.skew (kept Green s)).rate refl (green_rate n (add s l) s))
    (linear n (add s l).green.burst (add s (add s l)).green.burst _ (widened l.skew (kept Green s)).burst refl (green_burst n (add s l) s))

all_grown : (n : ℕ) (l : Loads) (s : Share) → (times (suc n) (add s) l).all ≡ grown n (add s l).all (add s (add s l)).all
all_grown n l s = curve _ _ _ _
    (linear n (add s l).all.rate (add s (add s l)).all.rate _ (widened l.skew (kept All s)).rate refl (all_rate n (add s l) s))
    (linear n (add s l).all.burst (add s (add s l)).all.burst _ (widened l.skew (kept All s)).burst refl (all_burst n (add s l) s))

same_grown : (n : ℕ) (c : Curve) → c ≡ grown n c c
same_grown n c =
    let rate : c.rate - c.rate ≡ 0 = omega arith in
    let burst : c.burst - c.burst ≡ 0 = omega arith in
    curve c.rate c.burst _ _ (omega arith ∙ ap (λ p. c.rate + n * p) (sym rate)) (omega arith ∙ ap (λ p. c.burst + n * p) (sym burst))

peaked_grown_by : (peak : Bool) (n : ℕ) (l : Loads) (s : Share) → s.has_peak ≡ peak
    → (times (suc n) (add s) l).peaked ≡ grown n (add s l).peaked (add s (add s l)).peaked
peaked_grown_by true n l s is = curve _ _ _ _
    (linear n (add s l).peaked.rate (add s (add s l)).peaked.rate _ (widened l.skew (kept Excess s)).rate (peaked_rate 1 (add s l) s is ∙ omega arith) (peaked_rate n (add s l) s is))
    (linear n (add s l).peaked.burst (add s (add s l)).peaked.burst _ (widened l.skew (kept Excess s)).burst (peaked_burst 1 (add s l) s is ∙ omega arith) (peaked_burst n (add s l) s is))
peaked_grown_by false n l s is =
    peaked_same n (add s l) s is ∙ same_grown n (add s l).peaked ∙ ap (grown n (add s l).peaked) (sym (peaked_same 1 (add s l) s is))

single_grown : (none : Bool) (n : ℕ) (l : Loads) (s : Share) → nat_eq (add s l).peaked_number 0 ≡ none
    → (if nat_eq (times (suc n) (add s) l).peaked_number 0 then nothing else (times (suc n) (add s) l).all)
    ≡ grown n (if nat_eq (add s l).peaked_number 0 then nothing else (add s l).all)
    (if nat_eq (add s (add s l)).peaked_number 0 then nothing else (add s (add s l)).all)
single_grown none n l s is = by none is
  where
    with_two : Bool → Curve
    with_two b = if b then nothing else (add s (add s l)).all

    with_one : Bool → Curve
    with_one b = if b then nothing else (add s l).all

    whole : Bool → Curve
    whole b = if b then nothing else (times n (add s) (add s l)).all

    by : (b : Bool) → nat_eq (add s l).peaked_number 0 ≡ b
        → whole (nat_eq (times n (add s) (add s l)).peaked_number 0) ≡ grown n (with_one (nat_eq (add s l).peaked_number 0)) (with_two (nat_eq (add s (add s l)).peaked_number 0))
    by true at =
        ap whole (is_none n l s ∙ at) ∙ same_grown n nothing
        ∙ sym (ap (λ b. grown n (with_one b) (with_two (nat_eq (add s (add s l)).peaked_number 0))) at ∙ ap (λ b. grown n nothing (with_two b)) (is_none 1 l s ∙ at))
    by false at =
        ap whole (is_none n l s ∙ at) ∙ all_grown n l s
        ∙ sym (ap (λ b. grown n (with_one b) (with_two (nat_eq (add s (add s l)).peaked_number 0))) at ∙ ap (λ b. grown n (add s l).all (with_two b)) (is_none 1 l s ∙ at))

counted_grown : (p : Parameters) (n : ℕ) (l : Loads) (s : Share)
    → counted_load p (times (suc n) (add s) l) ≡ grown n (counted_load p (add s l)) (counted_load p (add s (add s l)))
counted_grown (SrTcm p) n l s = single_grown (nat_eq (add s l).peaked_number 0) n l s refl
counted_grown (TrTcm p) n l s = all_grown n l s
counted_grown (Rfc4115 p) n l s = peaked_grown_by s.has_peak n l s refl

-- ---- the four tests of a meter
four : (a b c d : Bool) → (a && (b && (c && d))) ≡ true → (a ≡ true) × (b ≡ true) × (c ≡ true) × (d ≡ true)
four a b c d all =
    let one = and_parts a (b && (c && d)) all in
    let two = and_parts b (c && d) one.1 in
    let three = and_parts c d two.1 in
    (one.0, two.0, three.0, three.1)

pub meter-passes : (entry : List ℕ × Meter) (n : ℕ) (l : Loads) (s : Share) → grows_within n (growth_by (Some entry) l s) ≡ true
    → first_failed (sum_tests entry (times (suc n) (add s) l)) ≡ None
meter-passes entry n l s holds =
    let g = growth_by (Some entry) l s in
    let all = four (has_room n g.one.green_rate g.two.green_rate) (has_room n g.one.green_burst g.two.green_burst) (has_room n g.one.all_rate g.two.all_rate)
    (has_room n g.one.all_burst g.two.all_burst) holds in
    let green = green_grown n l s in
    let counted = counted_grown entry.1.parameters n l s in
    passed _ _ (omega (arith, leb-true _ _ all.0, ap (λ c. c.rate) green))
    (passed _ _ (omega (arith, leb-true _ _ all.1, ap (λ c. c.burst) green))
    (passed _ _ (omega (arith, leb-true _ _ all.2, ap (λ c. c.rate) counted))
    (passed _ _ (omega (arith, leb-true _ _ all.3, ap (λ c. c.burst) counted)) none_failed)))

pub meter-passed : (entry : List ℕ × Meter) (n : ℕ) (l : Loads) (s : Share) → first_failed (sum_tests entry (times (suc n) (add s) l)) ≡ None
    → grows_within n (growth_by (Some entry) l s) ≡ true
meter-passed entry n l s is =
    let one = passes _ _ is in
    let two = passes _ _ one.1 in
    let three = passes _ _ two.1 in
    let last = passes _ _ three.1 in
    let green = green_grown n l s in
    let counted = counted_grown entry.1.parameters n l s in
    let g = growth_by (Some entry) l s in
    let fits = λ (o t : Utilization). o.taken + n * (t.taken - o.taken) ≤ o.available in
    let first : fits g.one.green_rate g.two.green_rate = omega (arith, one.0, ap (λ c. c.rate) green) in
    let second : fits g.one.green_burst g.two.green_burst = omega (arith, two.0, ap (λ c. c.burst) green) in
    let third : fits g.one.all_rate g.two.all_rate = omega (arith, three.0, ap (λ c. c.rate) counted) in
    let fourth : fits g.one.all_burst g.two.all_burst = omega (arith, last.0, ap (λ c. c.burst) counted) in
    and_from (has_room n g.one.green_rate g.two.green_rate)
    (has_room n g.one.green_burst g.two.green_burst && (has_room n g.one.all_rate g.two.all_rate && has_room n g.one.all_burst g.two.all_burst))
    (le-leb _ _ first)
    (and_from (has_room n g.one.green_burst g.two.green_burst) (has_room n g.one.all_rate g.two.all_rate && has_room n g.one.all_burst g.two.all_burst)
    (le-leb _ _ second)
    (and_from (has_room n g.one.all_rate g.two.all_rate) (has_room n g.one.all_burst g.two.all_burst) (le-leb _ _ third) (le-leb _ _ fourth)))
