-- The answer of `meter`, a line at a time.
use Rattle.std.proofs.Common.{◌≡◌, ℕ, ◌+◌, ◌-◌, ◌<◌, ◌≤◌, zero, suc, Bool, true, false, List, [], ◌∷◌, ◌++◌, length, take, None, Some, arith, refl, sym, ap, ◌∙◌, append_assoc, inl, inr, codes, decimal}
use Rattle.std.specs.Prelude.{slice_index}
use Rattle.std.proofs.lemmas.List.{append-nil}
use Rattle.std.proofs.lemmas.Bool.{cases_lt}
use Rattle.std.proofs.lemmas.Bool.Decides.{nat_tests}
use Rattle.dsedge_lines.specs.Answers.{Answer, behind}
use Rattle.dsedge_lines.specs.declared.command.Ending.{Ending}
use Rattle.dsedge_lines.specs.declared.command.Ending.TheVariants.{Whole, BadLine, Full}
use Rattle.meter_book_base.specs.declared.any_meter.AnyMeter.{AnyMeter}
use Rattle.meter_book_base.specs.AnyMeter.{after_any, left_of, levels_of}
use Rattle.meter_book.specs.declared.accounts.Accounts.{Accounts}
use Rattle.meter_book.specs.declared.row.Arrival.{Arrival}
use Rattle.meter_book.specs.declared.standing.Standing.{Standing}
use Rattle.meter_book.specs.Replay.{accounts_with, offer_of}
use Rattle.meter_book.specs.Running.{counted}
use Rattle.meter_book.proofs.StandingLaws.{standing_after-append}
use Rattle.dsedge_meter.specs.Arrivals.{arrival_in, arrivals_from}
use Rattle.serde_json.specs.Data.{Data, depth, member, no_members, object, string}
use Rattle.serde_json.specs.Read.{max_depth}
use Rattle.serde_json.specs.Written.{has_float}
use Rattle.json_lines.specs.JsonLines.{count_data, count_keys, line_of, words_before}
use Rattle.json_lines.proofs.FigureLaws.{count_nests, count_plain, figure_said}
use Rattle.dsedge_meter.specs.Metered.{Telling, account_line, accounts_data, accounts_said, accounts_text_in, accounts_text_of, answer_of, answer_to, closing, ending_of, line_for, lines_from, packet_line, room_of, told_on}

-- a list that room is made for by one, with an element in front
take-suc : {X : Type 0} (room : ℕ) (x : X) (xs : List X) → 0 < room → take room (x ∷ xs) ≡ x ∷ take (room - 1) xs
take-suc zero x xs h = absurd (omega arith)
take-suc (suc room) x xs h =
    let same : suc room - 1 ≡ room = omega arith in
    rw same refl

take-nil : {X : Type 0} (room : ℕ) → take {A = X} room [] ≡ []
take-nil zero = refl
take-nil (suc room) = refl

-- a line that says no arrival
arrivals_from-bad : (number : ℕ) (line : List ℕ) (later : List (List ℕ)) → arrival_in number line ≡ None → arrivals_from number (line ∷ later) ≡ []
unfolding arrivals_from
arrivals_from-bad number line later e = rw e refl

-- a line that says an arrival
arrivals_from-good : (number : ℕ) (line : List ℕ) (later : List (List ℕ)) (a : Arrival) → arrival_in number line ≡ Some a
    → arrivals_from number (line ∷ later) ≡ a ∷ arrivals_from (number + 1) later
unfolding arrivals_from
arrivals_from-good number line later a e = rw e refl

-- how an answer ends: too many arrivals, too few, or just as many as lines
ending_of-full : (number room arrivals lines : ℕ) → room < arrivals → ending_of number room arrivals lines ≡ Full
unfolding ending_of
ending_of-full number room arrivals lines h = grind (arith, nat_tests)

ending_of-short : (number room arrivals lines : ℕ) → arrivals ≤ room → arrivals < lines → ending_of number room arrivals lines ≡ BadLine (number + arrivals)
unfolding ending_of
ending_of-short number room arrivals lines fits short = grind (arith, nat_tests)

ending_of-whole : (number room arrivals lines : ℕ) → arrivals ≤ room → lines ≤ arrivals → ending_of number room arrivals lines ≡ Whole
unfolding ending_of
ending_of-whole number room arrivals lines fits all = grind (arith, nat_tests)

-- one line further, with one place less
ending_of-more : (number room arrivals lines : ℕ) → 0 < room → ending_of number room (suc arrivals) (suc lines) ≡ ending_of (number + 1) (room - 1) arrivals lines
ending_of-more number room arrivals lines h =
    elim (cases_lt room (suc arrivals)) [
      | inl over ↦ ending_of-full number room (suc arrivals) (suc lines) over ∙ sym (ending_of-full (number + 1) (room - 1) arrivals lines (omega arith))
      | inr fits ↦ elim (cases_lt arrivals lines) [
        | inl short ↦
            let place : number + suc arrivals ≡ number + 1 + arrivals = omega arith in
            ending_of-short number room (suc arrivals) (suc lines) fits (omega arith)
            ∙ (ap (λ n. BadLine n) place ∙ sym (ending_of-short (number + 1) (room - 1) arrivals lines (omega arith) short))
        | inr all ↦ ending_of-whole number room (suc arrivals) (suc lines) fits (omega arith) ∙ sym (ending_of-whole (number + 1) (room - 1) arrivals lines (omega arith) all)
      ]
    ]

lines_from-nil : (has_levels : Bool) (m : AnyMeter) (place : ℕ) → lines_from has_levels m place [] ≡ []
lines_from-nil true m place = refl
lines_from-nil false m place = refl

answer_to-none : (t : Telling) (number lines : ℕ) → 0 < lines → answer_to t number lines [] ≡ record { text = []; ending = BadLine number }
unfolding answer_to
answer_to-none t number lines h =
    let here : number + 0 ≡ number = omega arith in
    let ends : ending_of number (room_of t.meter) 0 lines ≡ BadLine number = ending_of-short number _ 0 lines (omega arith) h ∙ ap (λ n. BadLine n) here in
    rw (take-nil (room_of t.meter), lines_from-nil t.has_levels t.meter.standing.meter t.meter.standing.place, ends) refl

answer_to-full : (t : Telling) (number lines : ℕ) (a : Arrival) (more : List Arrival) → room_of t.meter ≡ 0
    → answer_to t number lines (a ∷ more) ≡ record { text = []; ending = Full }
unfolding answer_to
answer_to-full t number lines a more full =
    let ends : ending_of number 0 (length (a ∷ more)) lines ≡ Full = ending_of-full number 0 (length (a ∷ more)) lines (omega arith) in
    rw (full, lines_from-nil t.has_levels t.meter.standing.meter t.meter.standing.place, ends) refl

-- a line in front of an answer
in_front : (in_json : Bool) (line rows text : List ℕ) (e f : Ending) (a b : Accounts) → text ≡ line ++ rows → e ≡ f → a ≡ b
    → record { text = text ++ closing in_json e a; ending = e } ≡ behind line (record { text = rows ++ closing in_json f b; ending = f })
in_front in_json line rows text e f a b parts ends same =
    rw (parts, ends, same) (ap (λ t. let answer : Answer = record { text = t; ending = f } in answer) (append_assoc line rows (closing in_json f b)))

-- the line of an arrival stands in front of those of the arrivals behind it
lines_from-more : (has_levels : Bool) (m : AnyMeter) (place : ℕ) (a : Arrival) (more : List Arrival)
    → lines_from has_levels m place (a ∷ more)
    ≡ packet_line has_levels (left_of m (offer_of a)) (levels_of (after_any m (offer_of a))) ++ lines_from has_levels (after_any m (offer_of a)) (place + 1) more
lines_from-more true m place a more = refl
lines_from-more false m place a more = refl

answer_to-more : (t : Telling) (number lines : ℕ) (a : Arrival) (more : List Arrival) → 0 < room_of t.meter
    → answer_to t number (suc lines) (a ∷ more) ≡ behind (line_for t a) (answer_to (told_on t a) (number + 1) lines more)
unfolding answer_to
answer_to-more t number lines a more room =
    let less : room_of (counted t.meter a) ≡ room_of t.meter - 1 = omega arith in
    let stood = t.meter.standing in
    let accounts = ap (λ (s : Standing). s.accounts) (sym (standing_after-append stood (a ∷ []) (take (room_of t.meter - 1) more) None None)) in
    rw (take-suc (room_of t.meter) a more room, less)
    (in_front t.in_json (line_for t a) _ _ _ _ _ _ (lines_from-more t.has_levels stood.meter stood.place a (take (room_of t.meter - 1) more))
    (ending_of-more number (room_of t.meter) (length more) lines room) accounts)

pub answer_of-bad : (t : Telling) (number : ℕ) (line : List ℕ) (later : List (List ℕ)) → arrival_in number line ≡ None
    → answer_of t number (line ∷ later) ≡ record { text = []; ending = BadLine number }
answer_of-bad t number line later e = rw (arrivals_from-bad number line later e) (answer_to-none t number (suc (length later)) (omega arith))

pub answer_of-full : (t : Telling) (number : ℕ) (line : List ℕ) (later : List (List ℕ)) (a : Arrival) → arrival_in number line ≡ Some a
    → t.meter.standing.place ≡ t.meter.most → answer_of t number (line ∷ later) ≡ record { text = []; ending = Full }
answer_of-full t number line later a e full =
    rw (arrivals_from-good number line later a e)
    (answer_to-full t number (suc (length later)) a (arrivals_from (number + 1) later) (omega (arith, full)))

pub answer_of-noted : (t : Telling) (number : ℕ) (line : List ℕ) (later : List (List ℕ)) (a : Arrival) → arrival_in number line ≡ Some a
    → t.meter.standing.place < t.meter.most
    → answer_of t number (line ∷ later) ≡ behind (line_for t a) (answer_of (told_on t a) (number + 1) later)
answer_of-noted t number line later a e room =
    rw (arrivals_from-good number line later a e)
    (answer_to-more t number (length later) a (arrivals_from (number + 1) later) (omega (arith, room)))

-- no rows add nothing to accounts
accounts_text-none : (a : Accounts) → accounts_text_of (accounts_with a []) ≡ accounts_text_of a
accounts_text-none a =
    let none : (n : ℕ) → n + 0 ≡ n = λ n. omega arith in
    rw (none (slice_index a.packets 0), none (slice_index a.packets 1), none (slice_index a.packets 2), none (slice_index a.bytes 0), none (slice_index a.bytes 1), none (slice_index a.bytes 2)) refl

accounts_data-none : (a : Accounts) → accounts_data (accounts_with a []) ≡ accounts_data a
accounts_data-none a =
    let none : (n : ℕ) → n + 0 ≡ n = λ n. omega arith in
    rw (none (slice_index a.packets 0), none (slice_index a.packets 1), none (slice_index a.packets 2), none (slice_index a.bytes 0), none (slice_index a.bytes 1), none (slice_index a.bytes 2)) refl

accounts_said-none : (in_json : Bool) (a : Accounts) → accounts_said in_json (accounts_with a []) ≡ accounts_said in_json a
accounts_said-none false a = accounts_text-none a
accounts_said-none true a = ap line_of (accounts_data-none a)

pub answer_of-end : (t : Telling) (number : ℕ) → answer_of t number [] ≡ record { text = accounts_said t.in_json t.meter.standing.accounts; ending = Whole }
unfolding answer_to arrivals_from
answer_of-end t number =
    let ends : ending_of number (room_of t.meter) 0 0 ≡ Whole = ending_of-whole number _ 0 0 (omega arith) (omega arith) in
    rw (take-nil (room_of t.meter), lines_from-nil t.has_levels t.meter.standing.meter t.meter.standing.place, ends)
    (ap (λ text. let answer : Answer = record { text = text; ending = Whole } in answer) (accounts_said-none t.in_json t.meter.standing.accounts))

-- the object of accounts has no float, nests twice, and makes the lines
abbrev three_counts : Data → Data → Data → Data
three_counts a b c = object
    (member (codes "answer") (string (codes "accounts")) (member (codes "green") a (member (codes "red") b (member (codes "yellow") c no_members))))

three_plain : (a b c : Data) → has_float a ≡ false → has_float b ≡ false → has_float c ≡ false → has_float (three_counts a b c) ≡ false
three_plain a b c pa pb pc = rw (pa, pb, pc) refl

three_nest : (a b c : Data) → depth a ≡ 1 → depth b ≡ 1 → depth c ≡ 1 → depth (three_counts a b c) ≡ 2
three_nest a b c na nb nc = rw (na, nb, nc) refl

pub accounts_plain : (a : Accounts) → has_float (accounts_data a) ≡ false
accounts_plain a = three_plain (count_data (slice_index a.packets 0) (slice_index a.bytes 0)) (count_data (slice_index a.packets 2) (slice_index a.bytes 2)) (count_data (slice_index a.packets 1) (slice_index a.bytes 1))
    (count_plain (slice_index a.packets 0) (slice_index a.bytes 0)) (count_plain (slice_index a.packets 2) (slice_index a.bytes 2))
    (count_plain (slice_index a.packets 1) (slice_index a.bytes 1))

pub accounts_shallow : (a : Accounts) → depth (accounts_data a) ≤ max_depth
accounts_shallow a =
    let two : depth (accounts_data a) ≡ 2 = three_nest (count_data (slice_index a.packets 0) (slice_index a.bytes 0)) (count_data (slice_index a.packets 2) (slice_index a.bytes 2)) (count_data (slice_index a.packets 1) (slice_index a.bytes 1)) (count_nests (slice_index a.packets 0) (slice_index a.bytes 0)) (count_nests (slice_index a.packets 2) (slice_index a.bytes 2))
    (count_nests (slice_index a.packets 1) (slice_index a.bytes 1)) in
    rw two (omega arith)

line_joined : (name packets bytes : List ℕ) → name ++ (32 ∷ (packets ++ (32 ∷ (bytes ++ (10 ∷ []))))) ≡ name ++ codes " " ++ packets ++ codes " " ++ bytes ++ codes "\n"
line_joined name packets bytes = simp append_assoc

count_said : (name : List ℕ) (packets bytes : ℕ)
    → name ++ words_before count_keys (count_data packets bytes) (codes "\n") ≡ account_line name packets bytes
count_said name packets bytes = rw (figure_said bytes, figure_said packets) (line_joined name (decimal packets) (decimal bytes))

three_lines : (a b c d e f : List ℕ) → a ≡ d → b ≡ e → c ≡ f → a ++ b ++ c ≡ d ++ e ++ f
three_lines a b c d e f first second third = cc

pub accounts_made : (a : Accounts) → accounts_text_in (accounts_data a) ≡ accounts_text_of a
accounts_made a = three_lines _ _ _ _ _ _ (count_said (codes "green") (slice_index a.packets 0) (slice_index a.bytes 0))
    (count_said (codes "yellow") (slice_index a.packets 1) (slice_index a.bytes 1)) (count_said (codes "red") (slice_index a.packets 2) (slice_index a.bytes 2))

-- an answer that ends here adds nothing to what stands
pub behind-nothing : (out : List ℕ) (ending : Ending) → record { text = out; ending = ending } ≡ behind out (record { text = []; ending = ending })
behind-nothing out ending = ap (λ t. let a : Answer = record { text = t; ending = ending } in a) (sym (append-nil out))

-- what a line adds stands between what stood and the answer to come
pub behind-line : (out now line : List ℕ) (whole later : Answer) → now ≡ out ++ line → whole ≡ behind line later → behind now later ≡ behind out whole
behind-line out now line whole later e f =
    rw (e, f) (ap (λ t. let a : Answer = record { text = t; ending = later.ending } in a) (append_assoc out line later.text))
