-- What is written of a certificate, and that it reads as the same.
use Rattle.std.proofs.Common.{rules, append_assoc, append-nil, length-append, drop, get_or, ◌≡◌, ℕ, suc, ◌+◌, ◌/◌, ◌%◌, ◌≤◌, ◌<◌, ◌^◌, Bool, true, false, ◌&&◌, ◌||◌, eqb, List, [], ◌⊎◌, inl, inr, ◌∷◌, ◌++◌, length, fold, Option, Some, Ok, Err, codes, decimal, IsTrue, refl, sym, ap, subst, ◌∙◌, arith, if◌then◌else◌}
use Rattle.std.specs.List.{AllByRecursion, list_all}
use Rattle.std.specs.Char.{is_ascii_digit}
use Rattle.std.specs.Cmp.Lexicographic.{nat_list_eq_equiv}
use Rattle.std.proofs.lemmas.Bool.{and_parts, eqb-true, false≢true}
use Rattle.std.proofs.lemmas.Bool.Decides.{nat_tests}
use Rattle.std.proofs.lemmas.Fmt.{decimal_by_steps, length-decimal-le}
use Rattle.std.proofs.lemmas.List.{drop_all, drop_more}
use Rattle.std.proofs.lemmas.List.Folds.{list_all-append}
use Rattle.std.proofs.lemmas.List.Sums.{fold-append}
use Rattle.line_text.specs.Lines.{fields_of, has_byte, lines_of}
use Rattle.line_text.specs.Numbers.{is_number, number_of, value_of, with_digit}
use Rattle.line_text.proofs.LineLemmas.{fields_of-cut, fields_of-uncut, has_byte-append, lines_of-cut}
use Rattle.line_text.proofs.NumberLemmas.{number_of-value}
use Rattle.ds_domain_base.specs.Names.{is_name, is_name_character}
use Rattle.ds_domain_base.specs.declared.contract.Contract.{Contract}
use Rattle.ds_certificate.specs.Columns.{Bound}
use Rattle.ds_certificate.specs.Readings.{Entry, behind, bound_in, bound_of, bounds_in, certificate_in, entry_in, if_formed, rows_in, said_of}
use Rattle.ds_certificate.specs.Texts.{Says, ended, excess_text, form_headed, form_of, heading, is_shaped, is_short, line_of, lines_for, lines_from, text_in, text_of}
use Rattle.ds_certificate.specs.declared.fault.CertificateFault.TheVariants.{Shape}
use Rattle.ds_certificate.specs.declared.form.Form.{Form}
use Rattle.ds_certificate.specs.declared.form.Form.TheVariants.{Short, Long}
use Rattle.ds_certificate.proofs.ReadingLaws.{long_is, short_is}

-- the decimal digits of a number
record IsDecimal (n : ℕ) (ds : List ℕ) : Type 0 where
  digits : list_all is_ascii_digit ds ≡ true
  value : fold with_digit 0 ds ≡ n
  some : 0 < length ds

decimal_one : (n : ℕ) → n < 10 → IsDecimal n ((48 + n) ∷ [])
decimal_one n small = record { digits = grind (arith, nat_tests); value = omega arith; some = omega arith }

decimal_more : (n : ℕ) (ds : List ℕ) → 10 ≤ n → IsDecimal (n / 10) ds → IsDecimal n (ds ++ (48 + n % 10) ∷ [])
decimal_more n ds large front = record {
  digits = list_all-append is_ascii_digit ds ((48 + n % 10) ∷ []) ∙ rw front.digits (grind (arith, nat_tests));
  value = fold-append with_digit 0 ds ((48 + n % 10) ∷ []) ∙ rw front.value (omega arith);
  some = simp length-append (omega arith);
}

decimal_is : (n : ℕ) → n < 2 ^ 64 → IsDecimal n (decimal n)
decimal_is = decimal_by_steps IsDecimal decimal_one decimal_more

is_number-decimal : (n : ℕ) → n < 2 ^ 64 → is_number (decimal n) ≡ true
unfolding is_number
is_number-decimal n small =
    let d = decimal_is n small in
    let long = length-decimal-le 20 n (omega arith) (omega arith) small in
    rw d.digits (grind (arith, nat_tests, d.some, long))

value_of-decimal : (n : ℕ) → n < 2 ^ 64 → value_of (decimal n) ≡ n
unfolding value_of
value_of-decimal n small = (decimal_is n small).value

number_of-decimal : (most n : ℕ) → n ≤ most → n < 2 ^ 64 → number_of most (decimal n) ≡ Some n
number_of-decimal most n within small =
    let d = decimal_is n small in
    number_of-value most (decimal n) d.some (length-decimal-le 20 n (omega arith) (omega arith) small) d.digits (omega (arith, d.value)) ∙ ap Some d.value

first_by : (b : Bool) (test : ℕ → Bool) (byte mark : ℕ) (later : Bool) → eqb byte mark ≡ b → test mark ≡ false → test byte ≡ true → later ≡ false → (eqb byte mark || later) ≡ false
first_by true test byte mark later same other good none = absurd (false≢true (sym other ∙ ap test (sym (eqb-true byte mark same)) ∙ good))
first_by false test byte mark later same other good none = rw (same, none) refl

-- a byte that a test refuses does not stand among bytes that pass it
no_byte : (test : ℕ → Bool) (mark : ℕ) (text : List ℕ) → test mark ≡ false → list_all test text ≡ true → has_byte mark text ≡ false
unfolding has_byte
no_byte test mark [] other good = refl
no_byte test mark (byte ∷ text) other good =
    let parts = and_parts (test byte) (list_all test text) good in
    first_by (eqb byte mark) test byte mark (has_byte mark text) refl other parts.0 (no_byte test mark text other parts.1)

no_byte-decimal : (mark n : ℕ) → is_ascii_digit mark ≡ false → n < 2 ^ 64 → has_byte mark (decimal n) ≡ false
no_byte-decimal mark n other small = no_byte is_ascii_digit mark (decimal n) other (decimal_is n small).digits

no_byte-name : (mark : ℕ) (name : List ℕ) → is_name_character mark ≡ false → IsTrue (is_name name) → has_byte mark name ≡ false
unfolding is_name
no_byte-name mark name other good = no_byte is_name_character mark name other (search (rules, and_parts, good))

-- what is known of a bound whose line is written
pub record IsWritten (name : List ℕ) (hop : ℕ) (b : Bound) : Type 0 where
  pub named : IsTrue (is_name name)
  pub at_hop : hop < 2 ^ 64
  pub green : b.green ≤ 10 ^ 15
  pub all : b.all ≤ 10 ^ 15
  pub excess : b.excess ≤ 10 ^ 15

no_space : has_byte 10 (codes " ") ≡ false
unfolding has_byte
no_space = refl

excess_line : (form : Form) (b : Bound) → b.excess ≤ 10 ^ 15 → has_byte 10 (excess_text form b) ≡ false
unfolding has_byte
excess_line Short b small = refl
excess_line Long b small = has_byte-append 10 (codes " ") (decimal b.excess) no_space (no_byte-decimal 10 b.excess refl (omega (arith, small)))

pub one_line : (form : Form) (name : List ℕ) (hop : ℕ) (b : Bound) → IsWritten name hop b → has_byte 10 (line_of form name hop b) ≡ false
one_line form name hop b w =
    let n = no_byte-name 10 name refl w.named in
    let h = no_byte-decimal 10 hop refl w.at_hop in
    let g = no_byte-decimal 10 b.green refl (omega (arith, w.green)) in
    let a = no_byte-decimal 10 b.all refl (omega (arith, w.all)) in
    let e = excess_line form b w.excess in
    has_byte-append 10 _ _ (has_byte-append 10 _ _ (has_byte-append 10 _ _ (has_byte-append 10 _ _ (has_byte-append 10 _ _ (has_byte-append 10 _ _ (has_byte-append 10 _ _ n no_space) h) no_space) g) no_space) a) e

-- the fields of a line, of which the last stand as given
fields_ahead : (name : List ℕ) (hop : ℕ) (b : Bound) (rest : List ℕ) → IsWritten name hop b
    → fields_of (name ++ 32 ∷ (decimal hop ++ 32 ∷ (decimal b.green ++ 32 ∷ rest))) ≡ name ∷ decimal hop ∷ decimal b.green ∷ fields_of rest
fields_ahead name hop b rest w =
    let n = no_byte-name 32 name refl w.named in
    let h = no_byte-decimal 32 hop refl w.at_hop in
    let g = no_byte-decimal 32 b.green refl (omega (arith, w.green)) in
    fields_of-cut name _ n ∙ ap (λ fs. name ∷ fs) (fields_of-cut (decimal hop) _ h)
    ∙ ap (λ fs. name ∷ decimal hop ∷ fs) (fields_of-cut (decimal b.green) rest g)

-- the entry that a bound's line says
abbrev entry_with : List ℕ → ℕ → Bound → ℕ → Entry
entry_with name hop b excess =
    record { name = name; hop = decimal hop; green = decimal b.green; all = decimal b.all; excess = decimal excess }

formed : (e : Entry) → is_name e.name ≡ true → is_number e.hop ≡ true → is_number e.green ≡ true → is_number e.all ≡ true → is_number e.excess ≡ true → if_formed e ≡ Some e
formed e p q r s t = rw (p, q, r, s, t) refl

written : (name : List ℕ) (hop : ℕ) (b : Bound) (excess : ℕ) → IsWritten name hop b → excess ≤ 10 ^ 15 → if_formed (entry_with name hop b excess) ≡ Some (entry_with name hop b excess)
written name hop b excess w small =
    formed (entry_with name hop b excess) w.named (is_number-decimal hop w.at_hop) (is_number-decimal b.green (omega (arith, w.green)))
    (is_number-decimal b.all (omega (arith, w.all))) (is_number-decimal excess (omega (arith, small)))

entry_in-line : (form : Form) (name : List ℕ) (hop : ℕ) (b : Bound) → IsWritten name hop b → Says form b
    → entry_in form (line_of form name hop b) ≡ Some (entry_with name hop b b.excess)
entry_in-line Short name hop b w says =
    let a = no_byte-decimal 32 b.all refl (omega (arith, w.all)) in
    let apart : line_of Short name hop b ≡ name ++ 32 ∷ (decimal hop ++ 32 ∷ (decimal b.green ++ 32 ∷ (decimal b.all ++ []))) = simp append_assoc in
    let fields : fields_of (line_of Short name hop b) ≡ name ∷ decimal hop ∷ decimal b.green ∷ decimal b.all ∷ [] =
    ap fields_of apart ∙ fields_ahead name hop b (decimal b.all ++ []) w
    ∙ ap (λ fs. name ∷ decimal hop ∷ decimal b.green ∷ fs) (ap fields_of (append-nil (decimal b.all)) ∙ fields_of-uncut (decimal b.all) a) in
    short_is (line_of Short name hop b) (entry_with name hop b b.excess) fields (ap decimal says) ∙ written name hop b b.excess w w.excess
entry_in-line Long name hop b w says =
    let a = no_byte-decimal 32 b.all refl (omega (arith, w.all)) in
    let e = no_byte-decimal 32 b.excess refl (omega (arith, w.excess)) in
    let apart : line_of Long name hop b ≡ name ++ 32 ∷ (decimal hop ++ 32 ∷ (decimal b.green ++ 32 ∷ (decimal b.all ++ 32 ∷ decimal b.excess))) = simp append_assoc in
    let fields : fields_of (line_of Long name hop b) ≡ name ∷ decimal hop ∷ decimal b.green ∷ decimal b.all ∷ decimal b.excess ∷ [] =
    ap fields_of apart ∙ fields_ahead name hop b (decimal b.all ++ 32 ∷ decimal b.excess) w
    ∙ ap (λ fs. name ∷ decimal hop ∷ decimal b.green ∷ fs) (fields_of-cut (decimal b.all) _ a ∙ ap (λ fs. decimal b.all ∷ fs) (fields_of-uncut (decimal b.excess) e)) in
    long_is (line_of Long name hop b) (entry_with name hop b b.excess) fields ∙ written name hop b b.excess w w.excess

said_made : (x y : Bool) (g a e : Option ℕ) (b : Bound) → x ≡ true → y ≡ true → g ≡ Some b.green → a ≡ Some b.all → e ≡ Some b.excess
    → (if x && y then bound_of g a e else Err Shape) ≡ Ok b
said_made x y g a e b p q r s t = rw (p, q, r, s, t) refl

eqb_same : (m n : ℕ) → m ≡ n → eqb m n ≡ true
eqb_same m n same = grind (arith, nat_tests)

pub bound_in-line : (form : Form) (name : List ℕ) (hop : ℕ) (b : Bound) → IsWritten name hop b → Says form b → bound_in form name hop (line_of form name hop b) ≡ Ok b
unfolding bound_in
bound_in-line form name hop b w says =
    ap (said_of name hop) (entry_in-line form name hop b w says)
    ∙ said_made _ _ _ _ _ b (nat_list_eq_equiv.refl name) (eqb_same _ _ (value_of-decimal hop w.at_hop))
    (number_of-decimal (10 ^ 15) b.green w.green (omega (arith, w.green))) (number_of-decimal (10 ^ 15) b.all w.all (omega (arith, w.all)))
    (number_of-decimal (10 ^ 15) b.excess w.excess (omega (arith, w.excess)))

-- the lines of bounds read as these bounds, whatever stands behind them
abbrev pub ReadBack : Form → List ℕ → ℕ → List Bound → Type 0
ReadBack form name hop bounds = AllByRecursion (Says form) bounds → (later : List ℕ) → bounds_in form name hop (length bounds) (lines_of (ended (lines_from form name hop bounds) ++ later)) ≡ Ok (bounds, lines_of later)

pub ReadBack-nil : (form : Form) (name : List ℕ) (hop : ℕ) → ReadBack form name hop []
unfolding bounds_in lines_from ended
ReadBack-nil form name hop says later = refl

pub ReadBack-more : (form : Form) (name : List ℕ) (hop : ℕ) (b : Bound) (bounds : List Bound) → has_byte 10 (line_of form name hop b) ≡ false → (Says form b → bound_in form name hop (line_of form name hop b) ≡ Ok b)
    → ReadBack form name (suc hop) bounds → ReadBack form name hop (b ∷ bounds)
unfolding bounds_in lines_from ended
ReadBack-more form name hop b bounds whole said front says later =
    let first : lines_of ((line_of form name hop b ++ 10 ∷ ended (lines_from form name (suc hop) bounds)) ++ later)
    ≡ line_of form name hop b ∷ lines_of (ended (lines_from form name (suc hop) bounds) ++ later) =
    ap lines_of (append_assoc (line_of form name hop b) _ later) ∙ lines_of-cut (line_of form name hop b) _ whole in
    rw (first, said says.0, front says.1 later) refl

ended-append : (xs ys : List (List ℕ)) → ended (xs ++ ys) ≡ ended xs ++ ended ys
unfolding ended
ended-append [] ys = refl
ended-append (x ∷ xs) ys = rw (ended-append xs ys) (sym (append_assoc x (10 ∷ ended xs) (ended ys)))

-- the lines of contracts read as these rows
abbrev pub RowsBack : Form → List Contract → List (List Bound) → Type 0
RowsBack form contracts rows = AllByRecursion (AllByRecursion (Says form)) rows → rows_in form contracts (lines_of (ended (lines_for form contracts rows))) ≡ Ok rows

pub RowsBack-nil : (form : Form) → RowsBack form [] []
unfolding rows_in lines_for ended lines_of
RowsBack-nil form says = refl

pub RowsBack-more : (form : Form) (c : Contract) (contracts : List Contract) (bounds : List Bound) (rows : List (List Bound)) → length bounds ≡ length c.path + 1
    → ReadBack form c.name 0 bounds → RowsBack form contracts rows → RowsBack form (c ∷ contracts) (bounds ∷ rows)
unfolding rows_in lines_for
RowsBack-more form c contracts bounds rows long front back says =
    let first : bounds_in form c.name 0 (length c.path + 1) (lines_of (ended (lines_from form c.name 0 bounds ++ lines_for form contracts rows))) ≡ Ok (bounds, lines_of (ended (lines_for form contracts rows))) =
    rw (← long) (ap (λ text. bounds_in form c.name 0 (length bounds) (lines_of text)) (ended-append (lines_from form c.name 0 bounds) (lines_for form contracts rows)) ∙ front says.0 (ended (lines_for form contracts rows))) in
    rw (first, back says.1) refl

no_feed : (form : Form) → has_byte 10 (heading form) ≡ false
unfolding has_byte
no_feed Short = refl
no_feed Long = refl

form_headed-heading : (form : Form) → form_headed (heading form) ≡ Some form
form_headed-heading Short = refl
form_headed-heading Long = refl

-- where every excess is its all the short form says enough, and the long one says enough always
all_say : (bounds : List Bound) → list_all is_short bounds ≡ true → AllByRecursion (Says Short) bounds
all_say [] short = tt
all_say (b ∷ bounds) short =
    let both = and_parts (is_short b) (list_all is_short bounds) short in
    (eqb-true b.excess b.all both.0, all_say bounds both.1)

rows_say : (rows : List (List Bound)) → list_all (list_all is_short) rows ≡ true → AllByRecursion (AllByRecursion (Says Short)) rows
rows_say [] short = tt
rows_say (bounds ∷ rows) short =
    let both = and_parts (list_all is_short bounds) (list_all (list_all is_short) rows) short in
    (all_say bounds both.0, rows_say rows both.1)

long_says : (bounds : List Bound) → AllByRecursion (Says Long) bounds
long_says [] = tt
long_says (b ∷ bounds) = (tt, long_says bounds)

long_rows_say : (rows : List (List Bound)) → AllByRecursion (AllByRecursion (Says Long)) rows
long_rows_say [] = tt
long_rows_say (bounds ∷ rows) = (long_says bounds, long_rows_say rows)

own_form_says : (rows : List (List Bound)) → AllByRecursion (AllByRecursion (Says (form_of rows))) rows
own_form_says rows = by_test (list_all (list_all is_short) rows) refl
  where
    by_test : (b : Bool) → list_all (list_all is_short) rows ≡ b → AllByRecursion (AllByRecursion (Says (if b then Short else Long))) rows
    by_test true short = rows_say rows short
    by_test false other = long_rows_say rows

pub certificate_in-text : (contracts : List Contract) (rows : List (List Bound)) → RowsBack (form_of rows) contracts rows → certificate_in contracts (text_of contracts rows) ≡ Ok rows
unfolding certificate_in ended
certificate_in-text contracts rows back =
    let form = form_of rows in
    rw (lines_of-cut (heading form) (ended (lines_for form contracts rows)) (no_feed form))
    (ap (λ found. behind found contracts (lines_of (ended (lines_for form contracts rows)))) (form_headed-heading form) ∙ back (own_form_says rows))

-- one line more, one contract more, and none
pub lines-more : (form : Form) (front more : List ℕ) (name : List ℕ) (hop i : ℕ) (b : Bound) (bounds : List Bound) (whole : List ℕ) → i < length bounds → b ≡ get_or bounds i b
    → more ≡ front ++ line_of form name hop b ++ 10 ∷ [] → front ++ ended (lines_from form name hop (drop i bounds)) ≡ whole
    → more ++ ended (lines_from form name (hop + 1) (drop (i + 1) bounds)) ≡ whole
unfolding lines_from ended
lines-more form front more name hop i b bounds whole inside is_b is_more kept =
    let here : drop i bounds ≡ b ∷ drop (i + 1) bounds = drop_more bounds i b inside ∙ ap (λ x. x ∷ drop (i + 1) bounds) (sym is_b) in
    let next : suc hop ≡ hop + 1 = omega arith in
    let before = ap (λ left. front ++ ended (lines_from form name hop left)) here in
    let moved = ap (λ h. front ++ (line_of form name hop b ++ 10 ∷ ended (lines_from form name h (drop (i + 1) bounds)))) next in
    let apart : (front ++ line_of form name hop b ++ 10 ∷ []) ++ ended (lines_from form name (hop + 1) (drop (i + 1) bounds))
    ≡ front ++ (line_of form name hop b ++ 10 ∷ ended (lines_from form name (hop + 1) (drop (i + 1) bounds))) = simp append_assoc in
    ap (λ text. text ++ ended (lines_from form name (hop + 1) (drop (i + 1) bounds))) is_more ∙ apart ∙ sym moved ∙ sym before ∙ kept

pub reads-more : (form : Form) (name : List ℕ) (hop i : ℕ) (b : Bound) (bounds : List Bound) → i < length bounds → b ≡ get_or bounds i b
    → has_byte 10 (line_of form name hop b) ≡ false → (Says form b → bound_in form name hop (line_of form name hop b) ≡ Ok b)
    → (ReadBack form name hop (drop i bounds) → ReadBack form name 0 bounds) → ReadBack form name (hop + 1) (drop (i + 1) bounds) → ReadBack form name 0 bounds
reads-more form name hop i b bounds inside is_b whole said kept behind =
    let here : drop i bounds ≡ b ∷ drop (i + 1) bounds = drop_more bounds i b inside ∙ ap (λ x. x ∷ drop (i + 1) bounds) (sym is_b) in
    let next : hop + 1 ≡ suc hop = omega arith in
    kept (subst (ReadBack form name hop) (sym here) (ReadBack-more form name hop b (drop (i + 1) bounds) whole said (subst (λ h. ReadBack form name h (drop (i + 1) bounds)) next behind)))

pub lines-ended : (form : Form) (front : List ℕ) (name : List ℕ) (hop i : ℕ) (bounds : List Bound) (whole : List ℕ) → length bounds ≤ i
    → front ++ ended (lines_from form name hop (drop i bounds)) ≡ whole → front ≡ whole
unfolding lines_from ended
lines-ended form front name hop i bounds whole all kept =
    sym (append-nil front) ∙ ap (λ left. front ++ ended (lines_from form name hop left)) (sym (drop_all i bounds all)) ∙ kept

pub reads-ended : (form : Form) (name : List ℕ) (hop i : ℕ) (bounds : List Bound) → length bounds ≤ i → (ReadBack form name hop (drop i bounds) → ReadBack form name 0 bounds) → ReadBack form name 0 bounds
reads-ended form name hop i bounds all kept = kept (subst (ReadBack form name hop) (sym (drop_all i bounds all)) (ReadBack-nil form name hop))

pub text_in-headed : (form : Form) (contracts : List Contract) (rows : List (List Bound)) → (heading form ++ 10 ∷ []) ++ ended (lines_for form contracts rows) ≡ text_in form contracts rows
unfolding ended
text_in-headed form contracts rows = append_assoc (heading form) (10 ∷ []) (ended (lines_for form contracts rows))

-- a contract more: xs and ys are the contracts and the rows that were left before it
pub rows-more : (form : Form) (front more : List ℕ) (xs contracts : List Contract) (c : Contract) (ys rows : List (List Bound)) (bounds : List Bound) (whole : List ℕ)
    → xs ≡ c ∷ contracts → ys ≡ bounds ∷ rows → more ≡ front ++ ended (lines_from form c.name 0 bounds)
    → front ++ ended (lines_for form xs ys) ≡ whole → more ++ ended (lines_for form contracts rows) ≡ whole
unfolding lines_for
rows-more form front more xs contracts c ys rows bounds whole are said is_more kept =
    let before : ended (lines_for form xs ys) ≡ ended (lines_from form c.name 0 bounds) ++ ended (lines_for form contracts rows) =
    rw (are, said) (ended-append (lines_from form c.name 0 bounds) (lines_for form contracts rows)) in
    rw is_more (append_assoc front (ended (lines_from form c.name 0 bounds)) (ended (lines_for form contracts rows)) ∙ ap (λ text. front ++ text) (sym before) ∙ kept)

pub shape-other : (xs contracts : List Contract) (c : Contract) (ys rows : List (List Bound)) (bounds : List Bound) → xs ≡ c ∷ contracts → ys ≡ bounds ∷ rows
    → eqb (length bounds) (suc (length c.path)) ≡ false → is_shaped xs ys ≡ false
unfolding is_shaped
shape-other xs contracts c ys rows bounds are said long = rw (are, said, long) refl

pub shape-more : (xs contracts : List Contract) (c : Contract) (ys rows : List (List Bound)) (bounds : List Bound) → xs ≡ c ∷ contracts → ys ≡ bounds ∷ rows
    → eqb (length bounds) (suc (length c.path)) ≡ true → is_shaped xs ys ≡ is_shaped contracts rows
unfolding is_shaped
shape-more xs contracts c ys rows bounds are said long = rw (are, said, long) refl

-- what is shaped is long, and so is what stands behind
pub shape-behind : (xs contracts : List Contract) (c : Contract) (ys rows : List (List Bound)) (bounds : List Bound) → xs ≡ c ∷ contracts → ys ≡ bounds ∷ rows
    → is_shaped xs ys ≡ true → (eqb (length bounds) (suc (length c.path)) ≡ true) × (is_shaped contracts rows ≡ true)
unfolding is_shaped
shape-behind xs contracts c ys rows bounds are said shaped =
    and_parts (eqb (length bounds) (suc (length c.path))) (is_shaped contracts rows) (subst (λ list. is_shaped (c ∷ contracts) list ≡ true) said (subst (λ list. is_shaped list ys ≡ true) are shaped))

-- where one of both is at its end, they are shaped where they are as long as each other
pub shape-ended : (xs : List Contract) (ys : List (List Bound)) (m n : ℕ) → (xs ≡ []) ⊎ (ys ≡ []) → length xs + n ≡ length ys + m → eqb m n ≡ is_shaped xs ys
unfolding is_shaped
shape-ended [] [] m n ended long = grind (arith, nat_tests, long)
shape-ended [] (bounds ∷ ys) m n ended long = grind (arith, nat_tests, long)
shape-ended (c ∷ xs) [] m n ended long = grind (arith, nat_tests, long)
shape-ended (c ∷ xs) (bounds ∷ ys) m n (inl ended) long = absurd cc
shape-ended (c ∷ xs) (bounds ∷ ys) m n (inr ended) long = absurd cc

-- where what is left is shaped and one of both is at its end, so is the other
pub both_ended : (xs : List Contract) (ys : List (List Bound)) → (xs ≡ []) ⊎ (ys ≡ []) → is_shaped xs ys ≡ true → (xs ≡ []) × (ys ≡ [])
unfolding is_shaped
both_ended [] [] ended shaped = (refl, refl)
both_ended [] (bounds ∷ ys) ended shaped = absurd cc
both_ended (c ∷ xs) [] ended shaped = absurd cc
both_ended (c ∷ xs) (bounds ∷ ys) (inl ended) shaped = absurd cc
both_ended (c ∷ xs) (bounds ∷ ys) (inr ended) shaped = absurd cc

pub back-more : (form : Form) (all xs contracts : List Contract) (c : Contract) (ys rows : List (List Bound)) (bounds : List Bound) (whole : List (List Bound))
    → xs ≡ c ∷ contracts → ys ≡ bounds ∷ rows → eqb (length bounds) (suc (length c.path)) ≡ true → ReadBack form c.name 0 bounds
    → (RowsBack form xs ys → RowsBack form all whole) → RowsBack form contracts rows → RowsBack form all whole
back-more form all xs contracts c ys rows bounds whole are said long front kept behind =
    let exact : length bounds ≡ length c.path + 1 = omega (arith, eqb-true _ _ long) in
    let more = RowsBack-more form c contracts bounds rows exact front behind in
    kept (subst (λ left. RowsBack form left ys) (sym are) (subst (RowsBack form (c ∷ contracts)) (sym said) more))

pub back-ended : (form : Form) (all xs : List Contract) (ys whole : List (List Bound)) → (xs ≡ []) × (ys ≡ []) → (RowsBack form xs ys → RowsBack form all whole) → RowsBack form all whole
back-ended form all xs ys whole none kept = kept (subst (λ left. RowsBack form left ys) (sym none.0) (subst (RowsBack form []) (sym none.1) (RowsBack-nil form)))

pub text-ended : (form : Form) (front : List ℕ) (xs : List Contract) (ys : List (List Bound)) (whole : List ℕ) → (xs ≡ []) × (ys ≡ []) → front ++ ended (lines_for form xs ys) ≡ whole → front ≡ whole
unfolding lines_for ended
text-ended form front xs ys whole none kept =
    sym (append-nil front) ∙ ap (λ left. front ++ ended (lines_for form left ys)) (sym none.0) ∙ kept
