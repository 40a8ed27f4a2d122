-- Objects have no float, nest no deeper than twice, and their lines are made of them.
use Rattle.std.proofs.Common.{◌≡◌, ◌≢◌, ℕ, ◌≤◌, max, false, suc, List, [], ◌∷◌, ◌++◌, codes, flat_map, Option, None, Some, append_assoc, append-nil, refl, sym, ap, ◌∙◌, arith}
use Rattle.std.proofs.lemmas.Fmt.{decimal_digit}
use Rattle.std.proofs.lemmas.Bool.Decides.{nat_tests}
use Rattle.std.specs.Option.{option_map_or}
use Rattle.serde_json.specs.Data.{Data, depth, items_depth}
use Rattle.serde_json.specs.Read.{max_depth}
use Rattle.serde_json.specs.View.{items_of}
use Rattle.serde_json.specs.Written.{has_float, items_have_float}
use Rattle.json_lines.specs.JsonLines.{words_line}
use Rattle.json_lines.proofs.FigureLaws.{figure_flat, figure_plain, figure_said}
use Rattle.ds_domain_base.specs.declared.contract.Contract.{Contract}
use Rattle.ds_domain_base.specs.declared.parts.Meter.{Meter}
use Rattle.ds_checker.specs.Acceptance.{Table}
use Rattle.ds_checker.specs.Headrooms.{headroom_of}
use Rattle.ds_checker.specs.declared.headroom.Headroom.{Headroom}
use Rattle.ds_checker.specs.declared.headroom.Utilization.{Utilization}
use Rattle.ds_checker.specs.declared.refusal.Refusal.{Refusal}
use Rattle.ds_checker.specs.declared.refusal.Refusal.TheVariants as refusals
use Rattle.dsedge_texts.specs.Headed.{headroom_text, lines_at, meter_lines, test_line}
use Rattle.dsedge_texts.specs.Refused.{refusal_line}
use Rattle.dsedge_texts.specs.Wording.{column_text, figure, name_of}
use Rattle.dsedge_json.specs.Objects.{accepted_data, check_line_in, headroom_data, headroom_lines_in, meter_tests, refusal_data, test_data, test_keys, tests_at, tests_lines, tests_of}

max_below : (a b c : ℕ) → a ≤ c → b ≤ c → max a b ≤ c
max_below a b c ha hb = grind (arith, nat_tests)

deep_enough : (n : ℕ) → n ≤ 1 → suc (max 0 (max (suc n) 0)) ≤ max_depth
deep_enough n h = grind (arith, nat_tests)

pub refusal_plain : (contracts : List Contract) (refusal : Refusal) → has_float (refusal_data contracts refusal) ≡ false
refusal_plain contracts (refusals.Shape place) = refl
refusal_plain contracts (refusals.FirstBound place column needed given) = rw (figure_plain given, figure_plain needed) refl
refusal_plain contracts (refusals.HopBound place hop column needed given) = rw (figure_plain given, figure_plain needed) refl
refusal_plain contracts (refusals.GreenRate meter needed available) = rw (figure_plain available, figure_plain needed) refl
refusal_plain contracts (refusals.GreenBurst meter needed available) = rw (figure_plain available, figure_plain needed) refl
refusal_plain contracts (refusals.AllRate meter needed available) = rw (figure_plain available, figure_plain needed) refl
refusal_plain contracts (refusals.AllBurst meter needed available) = rw (figure_plain available, figure_plain needed) refl
refusal_plain contracts refusals.NoMemory = refl

pub refusal_flat : (contracts : List Contract) (refusal : Refusal) → depth (refusal_data contracts refusal) ≤ 1
refusal_flat contracts (refusals.Shape place) = omega arith
refusal_flat contracts (refusals.FirstBound place column needed given) = rw (figure_flat given, figure_flat needed) (omega arith)
refusal_flat contracts (refusals.HopBound place hop column needed given) = rw (figure_flat given, figure_flat needed) (omega arith)
refusal_flat contracts (refusals.GreenRate meter needed available) = rw (figure_flat available, figure_flat needed) (omega arith)
refusal_flat contracts (refusals.GreenBurst meter needed available) = rw (figure_flat available, figure_flat needed) (omega arith)
refusal_flat contracts (refusals.AllRate meter needed available) = rw (figure_flat available, figure_flat needed) (omega arith)
refusal_flat contracts (refusals.AllBurst meter needed available) = rw (figure_flat available, figure_flat needed) (omega arith)
refusal_flat contracts refusals.NoMemory = omega arith

pub refusal_shallow : (contracts : List Contract) (refusal : Refusal) → depth (refusal_data contracts refusal) ≤ max_depth
refusal_shallow contracts refusal = omega (arith, refusal_flat contracts refusal)

three_joined : (a b c e : List ℕ) → a ++ (b ++ (c ++ e)) ≡ a ++ (b ++ c) ++ e
three_joined a b c e = sym (append_assoc a (b ++ c) e ∙ ap (λ tail. a ++ tail) (append_assoc b c e))

four_joined : (a b c d e : List ℕ) → a ++ (b ++ (c ++ (d ++ e))) ≡ a ++ (b ++ (c ++ d)) ++ e
four_joined a b c d e =
    sym (append_assoc a (b ++ (c ++ d)) e ∙ ap (λ tail. a ++ tail) (sym (three_joined b c d e)))

five_joined : (a b c d e f : List ℕ) → a ++ (b ++ (c ++ (d ++ (e ++ f)))) ≡ a ++ b ++ (c ++ (d ++ e)) ++ f
five_joined a b c d e f = sym (append_assoc a b (c ++ (d ++ (e ++ f)))) ∙ four_joined (a ++ b) c d e f

row_joined : (a b c d e : List ℕ) → a ++ (b ++ (c ++ (d ++ e))) ≡ a ++ b ++ c ++ d ++ e
row_joined a b c d e =
    sym (append_assoc (a ++ b ++ c) d e ∙ append_assoc (a ++ b) c (d ++ e) ∙ append_assoc a b (c ++ (d ++ e)))

pub refusal_says : (contracts : List Contract) (refusal : Refusal) → refusal ≢ refusals.NoMemory → check_line_in (refusal_data contracts refusal) ≡ refusal_line contracts refusal
refusal_says contracts (refusals.Shape place) told = rw (decimal_digit 1 (omega arith)) refl
refusal_says contracts (refusals.FirstBound place column needed given) told =
    rw (figure_said given, figure_said needed, decimal_digit 2 (omega arith))
    (ap (λ tail. codes "refused 2 FirstBound " ++ tail)
    (four_joined (name_of contracts place) (codes " " ++ column_text column) (figure needed) (figure given) (codes "\n")))
refusal_says contracts (refusals.HopBound place hop column needed given) told =
    rw (figure_said given, figure_said needed, decimal_digit 3 (omega arith))
    (ap (λ tail. codes "refused 3 HopBound " ++ tail)
    (five_joined (name_of contracts place) (figure hop) (codes " " ++ column_text column) (figure needed) (figure given) (codes "\n")))
refusal_says contracts (refusals.GreenRate meter needed available) told =
    rw (figure_said available, figure_said needed, decimal_digit 4 (omega arith))
    (ap (λ tail. codes "refused 4 GreenRate " ++ tail) (three_joined meter (figure needed) (figure available) (codes "\n")))
refusal_says contracts (refusals.GreenBurst meter needed available) told =
    rw (figure_said available, figure_said needed, decimal_digit 5 (omega arith))
    (ap (λ tail. codes "refused 5 GreenBurst " ++ tail) (three_joined meter (figure needed) (figure available) (codes "\n")))
refusal_says contracts (refusals.AllRate meter needed available) told =
    rw (figure_said available, figure_said needed, decimal_digit 6 (omega arith))
    (ap (λ tail. codes "refused 6 AllRate " ++ tail) (three_joined meter (figure needed) (figure available) (codes "\n")))
refusal_says contracts (refusals.AllBurst meter needed available) told =
    rw (figure_said available, figure_said needed, decimal_digit 7 (omega arith))
    (ap (λ tail. codes "refused 7 AllBurst " ++ tail) (three_joined meter (figure needed) (figure available) (codes "\n")))
refusal_says contracts refusals.NoMemory told = absurd (told refl)

pub accepted_says : check_line_in accepted_data ≡ codes "accepted\n"
accepted_says = refl

-- four objects that were put behind others one by one
four_pushed : (old : List Data) (a b c d : Data)
    → old ++ (a ∷ []) ++ (b ∷ []) ++ (c ∷ []) ++ (d ∷ []) ≡ old ++ (a ∷ b ∷ c ∷ d ∷ [])
four_pushed [] a b c d = refl
four_pushed (x ∷ old) a b c d = ap (λ tail. x ∷ tail) (four_pushed old a b c d)

pub tests_pushed : (old one two three four : List Data) (a b c d : Data) → one ≡ old ++ a ∷ [] → two ≡ one ++ b ∷ [] → three ≡ two ++ c ∷ [] → four ≡ three ++ d ∷ []
    → four ≡ old ++ (a ∷ b ∷ c ∷ d ∷ [])
tests_pushed old one two three four a b c d first second third fourth = rw (fourth, third, second, first) (four_pushed old a b c d)

-- objects that have no float, and nest once
abbrev pub AreTests : List Data → Type 0
AreTests [] = Unit {0}
AreTests (test ∷ tests) = (has_float test ≡ false) × (depth test ≡ 1) × AreTests tests

tests_and : (xs ys : List Data) → AreTests xs → AreTests ys → AreTests (xs ++ ys)
tests_and [] ys are more = more
tests_and (x ∷ xs) ys are more = (are.0, are.1, tests_and xs ys are.2 more)

test_plain : (meter kind : List ℕ) (u : Utilization) → has_float (test_data meter kind u) ≡ false
test_plain meter kind u = rw (figure_plain u.available, figure_plain u.taken) refl

test_shallow : (meter kind : List ℕ) (u : Utilization) → depth (test_data meter kind u) ≡ 1
test_shallow meter kind u = rw (figure_flat u.available, figure_flat u.taken) refl

are_tests_at : (meter : List ℕ) (found : Option Headroom) → AreTests (option_map_or (meter_tests meter) found [])
are_tests_at meter None = tt
are_tests_at meter (Some h) = (
  test_plain meter (codes "GreenRate") h.green_rate,
  test_shallow meter (codes "GreenRate") h.green_rate,
  (
    test_plain meter (codes "GreenBurst") h.green_burst,
    test_shallow meter (codes "GreenBurst") h.green_burst,
    (
      test_plain meter (codes "AllRate") h.all_rate,
      test_shallow meter (codes "AllRate") h.all_rate,
      (test_plain meter (codes "AllBurst") h.all_burst, test_shallow meter (codes "AllBurst") h.all_burst, tt),
    ),
  ),
)

are_tests : (t : Table) (meters : List (List ℕ × Meter)) → AreTests (flat_map (λ entry. tests_at t entry.0) meters)
are_tests t [] = tt
are_tests t (entry ∷ meters) =
    tests_and (tests_at t entry.0) (flat_map (λ entry. tests_at t entry.0) meters) (are_tests_at entry.0 (headroom_of t entry.0)) (are_tests t meters)

items_plain : (tests : List Data) → AreTests tests → items_have_float (items_of tests) ≡ false
items_plain [] are = refl
items_plain (test ∷ tests) are = rw (are.0, items_plain tests are.2) refl

items_shallow : (tests : List Data) → AreTests tests → items_depth (items_of tests) ≤ 1
items_shallow [] are = omega arith
items_shallow (test ∷ tests) are = rw are.1 (max_below 1 (items_depth (items_of tests)) 1 (omega arith) (items_shallow tests are.2))

pub headroom_plain : (t : Table) → has_float (headroom_data t) ≡ false
headroom_plain t = rw (items_plain (tests_of t) (are_tests t t.domain.meters)) refl

pub headroom_shallow : (t : Table) → depth (headroom_data t) ≤ max_depth
headroom_shallow t =
    deep_enough (items_depth (items_of (tests_of t))) (items_shallow (tests_of t) (are_tests t t.domain.meters))

test_says : (meter kind : List ℕ) (u : Utilization) → words_line test_keys (test_data meter kind u) ≡ test_line meter (codes " " ++ kind) u
test_says meter kind u =
    rw (figure_said u.available, figure_said u.taken)
    (row_joined meter (codes " " ++ kind) (figure u.taken) (figure u.available) (codes "\n"))

tests_lines-append : (xs ys : List Data) → tests_lines (items_of (xs ++ ys)) ≡ tests_lines (items_of xs) ++ tests_lines (items_of ys)
tests_lines-append [] ys = refl
tests_lines-append (x ∷ xs) ys =
    ap (λ tail. words_line test_keys x ++ tail) (tests_lines-append xs ys)
    ∙ sym (append_assoc (words_line test_keys x) (tests_lines (items_of xs)) (tests_lines (items_of ys)))

four_lines : (a b c d a2 b2 c2 d2 : List ℕ) → a ≡ a2 → b ≡ b2 → c ≡ c2 → d ≡ d2 → a ++ (b ++ (c ++ (d ++ []))) ≡ a2 ++ b2 ++ c2 ++ d2
four_lines a b c d a2 b2 c2 d2 first second third fourth =
    rw (first, second, third, fourth) (row_joined a2 b2 c2 d2 [] ∙ append-nil (a2 ++ b2 ++ c2 ++ d2))

at_says : (meter : List ℕ) (found : Option Headroom)
    → tests_lines (items_of (option_map_or (meter_tests meter) found [])) ≡ option_map_or (meter_lines meter) found []
at_says meter None = refl
at_says meter (Some h) = four_lines _ _ _ _ _ _ _ _
    (test_says meter (codes "GreenRate") h.green_rate) (test_says meter (codes "GreenBurst") h.green_burst)
    (test_says meter (codes "AllRate") h.all_rate) (test_says meter (codes "AllBurst") h.all_burst)

all_say : (t : Table) (meters : List (List ℕ × Meter))
    → tests_lines (items_of (flat_map (λ entry. tests_at t entry.0) meters)) ≡ flat_map (λ entry. lines_at t entry.0) meters
all_say t [] = refl
all_say t (entry ∷ meters) =
    tests_lines-append (tests_at t entry.0) (flat_map (λ entry. tests_at t entry.0) meters)
    ∙ (ap (λ lines. lines ++ tests_lines (items_of (flat_map (λ entry. tests_at t entry.0) meters))) (at_says entry.0 (headroom_of t entry.0))
    ∙ ap (λ lines. lines_at t entry.0 ++ lines) (all_say t meters))

pub headroom_says : (t : Table) → headroom_lines_in (headroom_data t) ≡ headroom_text t
headroom_says t = all_say t t.domain.meters
