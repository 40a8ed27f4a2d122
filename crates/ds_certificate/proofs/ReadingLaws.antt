-- What a reader of a certificate's lines needs.
use Rattle.std.proofs.Common.{rules, append_assoc, append-nil, get_or, take, ◌≡◌, ◌≢◌, ℕ, suc, ◌+◌, ◌-◌, ◌≤◌, ◌<◌, Bool, false, List, [], ◌∷◌, ◌++◌, drop, length, None, Some, Result, Ok, Err, refl, sym, ap, ◌∙◌, arith, if◌then◌else◌, IsTrue, MatchOption, Option}
use Rattle.std.proofs.lemmas.Bool.Decides.{nat_tests}
use Rattle.std.proofs.lemmas.List.{drop_all, drop_more}
use Rattle.std.specs.Result.{is_ok, result_err}
use Rattle.line_text.specs.Lines.{fields_of, has_byte, lines_of}
use Rattle.line_text.specs.Numbers.{number_of}
use Rattle.line_text.proofs.LineLemmas.{lines_of-nil, lines_of-uncut}
use Rattle.ds_domain_base.specs.declared.contract.Contract.{Contract}
use Rattle.ds_certificate.specs.Columns.{Bound}
use Rattle.ds_certificate.specs.Readings.{Entry, Read, bound_in, bounds_in, ending_in, entry_in, entry_of, has_form, if_formed, left_of, onto, row_onto, rows_in}
use Rattle.ds_certificate.specs.declared.form.Form.{Form}
use Rattle.ds_certificate.specs.declared.form.Form.TheVariants.{Short, Long}
use Rattle.ds_certificate.specs.declared.fault.CertificateFault.{CertificateFault}
use Rattle.ds_certificate.specs.declared.fault.CertificateFault.TheVariants.{Shape}

pub number_of_most : (most : ℕ) (text : List ℕ) (value : ℕ) → number_of most text ≡ Some value → value ≤ most
unfolding number_of
number_of_most most text value is = grind (arith, nat_tests)

-- a text without LF is one line
pub one_line_left : (text : List ℕ) → 0 < length text → has_byte 10 text ≡ false → lines_of text ≡ text ∷ lines_of []
one_line_left [] some whole = absurd (omega (arith, some))
one_line_left (byte ∷ text) some whole = lines_of-uncut byte text whole ∙ ap (λ lines. (byte ∷ text) ∷ lines) (sym lines_of-nil)

pub lines_of-empty : (text : List ℕ) → length text ≡ 0 → lines_of text ≡ []
lines_of-empty [] none = lines_of-nil
lines_of-empty (byte ∷ text) none = absurd (omega (arith, none))

-- a line of another number of fields is no entry
short-other : (fields : List (List ℕ)) → length fields ≢ 4 → entry_of Short fields ≡ None
short-other [] other = refl
short-other (a ∷ []) other = refl
short-other (a ∷ b ∷ []) other = refl
short-other (a ∷ b ∷ c ∷ []) other = refl
short-other (a ∷ b ∷ c ∷ d ∷ []) other = absurd (other refl)
short-other (a ∷ b ∷ c ∷ d ∷ e ∷ fields) other = refl

long-other : (fields : List (List ℕ)) → length fields ≢ 5 → entry_of Long fields ≡ None
long-other [] other = refl
long-other (a ∷ []) other = refl
long-other (a ∷ b ∷ []) other = refl
long-other (a ∷ b ∷ c ∷ []) other = refl
long-other (a ∷ b ∷ c ∷ d ∷ []) other = refl
long-other (a ∷ b ∷ c ∷ d ∷ e ∷ []) other = absurd (other refl)
long-other (a ∷ b ∷ c ∷ d ∷ e ∷ f ∷ fields) other = refl

pub short_none : (form : Form) (line : List ℕ) → form ≡ Short → length (fields_of line) ≢ 4 → entry_in form line ≡ None
unfolding entry_in
short_none form line is other = rw is (short-other (fields_of line) other)

pub long_none : (form : Form) (line : List ℕ) → form ≡ Long → length (fields_of line) ≢ 5 → entry_in form line ≡ None
unfolding entry_in
long_none form line is other = rw is (long-other (fields_of line) other)

-- what a line of the fields of an entry says
pub short_is : (line : List ℕ) (e : Entry) → fields_of line ≡ e.name ∷ e.hop ∷ e.green ∷ e.all ∷ [] → e.excess ≡ e.all → entry_in Short line ≡ if_formed e
unfolding entry_in
short_is line e are same =
    ap (entry_of Short) are
    ∙ ap (λ excess. if_formed (record { name = e.name; hop = e.hop; green = e.green; all = e.all; excess = excess })) (sym same)

pub long_is : (line : List ℕ) (e : Entry) → fields_of line ≡ e.name ∷ e.hop ∷ e.green ∷ e.all ∷ e.excess ∷ [] → entry_in Long line ≡ if_formed e
unfolding entry_in
long_is line e are = ap (entry_of Long) are

pub short_said : (form : Form) (line : List ℕ) (e : Entry) (is : Bool) → form ≡ Short → fields_of line ≡ e.name ∷ e.hop ∷ e.green ∷ e.all ∷ [] → e.excess ≡ e.all → has_form e ≡ is
    → entry_in form line ≡ (if is then Some e else None)
short_said form line e is short are same formed = rw short (short_is line e are same ∙ ap (λ b. if b then Some e else None) formed)

pub long_said : (form : Form) (line : List ℕ) (e : Entry) (is : Bool) → form ≡ Long → fields_of line ≡ e.name ∷ e.hop ∷ e.green ∷ e.all ∷ e.excess ∷ [] → has_form e ≡ is
    → entry_in form line ≡ (if is then Some e else None)
long_said form line e is long are formed = rw long (long_is line e are ∙ ap (λ b. if b then Some e else None) formed)

-- bounds behind others
abbrev pub ahead : List Bound → Result Read CertificateFault → Result Read CertificateFault
ahead done (Err fault) = Err fault
ahead done (Ok read) = Ok (done ++ read.0, read.1)

ahead-onto : (done : List Bound) (b : Bound) (later : Result Read CertificateFault) → ahead done (onto (Ok b) later) ≡ ahead (done ++ b ∷ []) later
ahead-onto done b (Err fault) = refl
ahead-onto done b (Ok read) = ap (λ bounds. Ok (bounds, read.1)) (sym (append_assoc done (b ∷ []) read.0))

pub bounds_in-ended : (form : Form) (done : List Bound) (name : List ℕ) (hop count : ℕ) (lines : List (List ℕ)) → count ≤ hop → ahead done (bounds_in form name hop (count - hop) lines) ≡ Ok (done, lines)
unfolding bounds_in
bounds_in-ended form done name hop count lines all =
    let none : count - hop ≡ 0 = omega arith in
    rw none (ap (λ bounds. Ok (bounds, lines)) (search rules))

pub bounds_in-missing : (form : Form) (done : List Bound) (name : List ℕ) (hop count : ℕ) (lines : List (List ℕ)) → hop < count → lines ≡ []
    → ahead done (bounds_in form name hop (count - hop) lines) ≡ Err Shape
unfolding bounds_in
bounds_in-missing form done name hop count lines more none =
    let left : count - hop ≡ suc (count - (hop + 1)) = omega arith in
    rw (left, none) refl

pub bounds_in-bad : (form : Form) (done : List Bound) (name : List ℕ) (hop count : ℕ) (lines : List (List ℕ)) (line : List ℕ) (rest : List (List ℕ)) (fault : CertificateFault) → hop < count
    → lines ≡ line ∷ rest → bound_in form name hop line ≡ Err fault → ahead done (bounds_in form name hop (count - hop) lines) ≡ Err fault
unfolding bounds_in
bounds_in-bad form done name hop count lines line rest fault more are said =
    let left : count - hop ≡ suc (count - (hop + 1)) = omega arith in
    rw (left, are, said) refl

pub bounds_in-line : (form : Form) (done front : List Bound) (name : List ℕ) (hop count : ℕ) (lines : List (List ℕ)) (line : List ℕ) (rest : List (List ℕ)) (b : Bound) → hop < count
    → lines ≡ line ∷ rest → bound_in form name hop line ≡ Ok b → front ≡ done ++ b ∷ []
    → ahead done (bounds_in form name hop (count - hop) lines) ≡ ahead front (bounds_in form name (hop + 1) (count - (hop + 1)) rest)
unfolding bounds_in
bounds_in-line form done front name hop count lines line rest b more are said is_front =
    let left : count - hop ≡ suc (count - (hop + 1)) = omega arith in
    let next : suc hop ≡ hop + 1 = omega arith in
    rw (left, are, said, next, is_front) (ahead-onto done b (bounds_in form name (hop + 1) (count - (hop + 1)) rest))

-- rows behind others
abbrev pub rows_ahead : List (List Bound) → Result (List (List Bound)) CertificateFault → Result (List (List Bound)) CertificateFault
rows_ahead done (Err fault) = Err fault
rows_ahead done (Ok rows) = Ok (done ++ rows)

rows_ahead-onto : (done : List (List Bound)) (bounds : List Bound) (later : Result (List (List Bound)) CertificateFault)
    → rows_ahead done (row_onto bounds later) ≡ rows_ahead (done ++ bounds ∷ []) later
rows_ahead-onto done bounds (Err fault) = refl
rows_ahead-onto done bounds (Ok rows) = ap Ok (sym (append_assoc done (bounds ∷ []) rows))

here : (contracts : List Contract) (i : ℕ) (c : Contract) → i < length contracts → c ≡ get_or contracts i c → drop i contracts ≡ c ∷ drop (i + 1) contracts
here contracts i c inside is_c = drop_more contracts i c inside ∙ ap (λ x. x ∷ drop (i + 1) contracts) (sym is_c)

pub rows_in-contract : (form : Form) (done front : List (List Bound)) (contracts : List Contract) (i : ℕ) (c : Contract) (lines left : List (List ℕ)) (bounds : List Bound)
    → i < length contracts → c ≡ get_or contracts i c → bounds_in form c.name 0 (length c.path + 1) lines ≡ Ok (bounds, left) → front ≡ done ++ bounds ∷ []
    → rows_ahead done (rows_in form (drop i contracts) lines) ≡ rows_ahead front (rows_in form (drop (i + 1) contracts) left)
unfolding rows_in
rows_in-contract form done front contracts i c lines left bounds inside is_c read is_front =
    rw (here contracts i c inside is_c, read, is_front) (rows_ahead-onto done bounds (rows_in form (drop (i + 1) contracts) left))

pub rows_in-bad : (form : Form) (done : List (List Bound)) (contracts : List Contract) (i : ℕ) (c : Contract) (lines : List (List ℕ)) (fault : CertificateFault)
    → i < length contracts → c ≡ get_or contracts i c → bounds_in form c.name 0 (length c.path + 1) lines ≡ Err fault
    → rows_ahead done (rows_in form (drop i contracts) lines) ≡ Err fault
unfolding rows_in
rows_in-bad form done contracts i c lines fault inside is_c read = rw (here contracts i c inside is_c, read) refl

rows_in-ended : (form : Form) (done : List (List Bound)) (contracts : List Contract) (i : ℕ) (lines : List (List ℕ)) → length contracts ≤ i → ending_in form lines ≡ Ok []
    → rows_ahead done (rows_in form (drop i contracts) lines) ≡ Ok done
unfolding rows_in
rows_in-ended form done contracts i lines all end = rw (drop_all i contracts all, end) (ap Ok (append-nil done))

pub read_whole : (form : Form) (contracts : List Contract) (lines : List (List ℕ)) (done result : List (List Bound)) (i : ℕ) (rest : List (List ℕ)) → length contracts ≤ i → ending_in form rest ≡ Ok []
    → rows_ahead done (rows_in form (drop i contracts) rest) ≡ rows_in form contracts lines → result ≡ done → rows_in form contracts lines ≡ Ok result
read_whole form contracts lines done result i rest all end kept is = sym kept ∙ rows_in-ended form done contracts i rest all end ∙ ap Ok (sym is)

pub rows_in-excess : (form : Form) (done : List (List Bound)) (contracts : List Contract) (i : ℕ) (lines : List (List ℕ)) (fault : CertificateFault) → length contracts ≤ i → ending_in form lines ≡ Err fault
    → rows_ahead done (rows_in form (drop i contracts) lines) ≡ Err fault
unfolding rows_in
rows_in-excess form done contracts i lines fault all end = rw (drop_all i contracts all, end) refl

pub empty_end : (text : List ℕ) → take (length text - length text) (drop (length text) text) ≡ []
empty_end text = rw (drop_all (length text) text (omega arith)) (search rules)

-- what is left or wrong, whatever stands before
left_ahead : (done : List Bound) (read : Result Read CertificateFault) → left_of (ahead done read) ≡ left_of read
left_ahead done (Err fault) = refl
left_ahead done (Ok read) = refl

left_err : (read : Result Read CertificateFault) (fault : CertificateFault) → left_of read ≡ Err fault → read ≡ Err fault
left_err (Err other) fault is = cc
left_err (Ok read) fault is = cc

left_ok : (read : Result Read CertificateFault) (left : List (List ℕ)) → left_of read ≡ Ok left → (bounds : List Bound) × (read ≡ Ok (bounds, left))
left_ok (Err fault) left is = cc
left_ok (Ok read) left is =
    let same : read.1 ≡ left = cc in
    (read.0, ap (λ lines. Ok (read.0, lines)) same)

pub left-bad : (read whole : Result Read CertificateFault) (fault : CertificateFault) → ahead [] read ≡ Err fault → left_of read ≡ left_of whole → whole ≡ Err fault
left-bad read whole fault bad same = left_err whole fault (sym same ∙ sym (left_ahead [] read) ∙ ap left_of bad)

pub left-on : (form : Form) (name : List ℕ) (hop count : ℕ) (lines : List (List ℕ)) (line : List ℕ) (rest : List (List ℕ)) (b : Bound) (whole : Result Read CertificateFault) → hop < count
    → lines ≡ line ∷ rest → bound_in form name hop line ≡ Ok b → left_of (bounds_in form name hop (count - hop) lines) ≡ left_of whole
    → left_of (bounds_in form name (hop + 1) (count - (hop + 1)) rest) ≡ left_of whole
left-on form name hop count lines line rest b whole more are said same =
    sym (left_ahead (b ∷ []) (bounds_in form name (hop + 1) (count - (hop + 1)) rest))
    ∙ ap left_of (sym (bounds_in-line form [] (b ∷ []) name hop count lines line rest b more are said refl))
    ∙ left_ahead [] (bounds_in form name hop (count - hop) lines) ∙ same

pub left-ended : (read whole : Result Read CertificateFault) (rest : List (List ℕ)) → ahead [] read ≡ Ok ([], rest) → left_of read ≡ left_of whole → left_of whole ≡ Ok rest
left-ended read whole rest ended same = sym same ∙ sym (left_ahead [] read) ∙ ap left_of ended

fault_ahead : (done : List (List Bound)) (rows : Result (List (List Bound)) CertificateFault) → result_err (rows_ahead done rows) ≡ result_err rows
fault_ahead done (Err fault) = refl
fault_ahead done (Ok rows) = refl

pub fault-bad : (left whole : Result (List (List Bound)) CertificateFault) (fault : CertificateFault) → rows_ahead [] left ≡ Err fault → result_err left ≡ result_err whole → Some fault ≡ result_err whole
fault-bad left whole fault bad same = sym (ap result_err bad) ∙ fault_ahead [] left ∙ same

pub fault-on : (form : Form) (contracts : List Contract) (i : ℕ) (c : Contract) (lines left : List (List ℕ)) (whole : Result (List (List Bound)) CertificateFault)
    → i < length contracts → c ≡ get_or contracts i c → left_of (bounds_in form c.name 0 (length c.path + 1) lines) ≡ Ok left
    → result_err (rows_in form (drop i contracts) lines) ≡ result_err whole → result_err (rows_in form (drop (i + 1) contracts) left) ≡ result_err whole
fault-on form contracts i c lines left whole inside is_c read same =
    let bounds = left_ok (bounds_in form c.name 0 (length c.path + 1) lines) left read in
    sym (fault_ahead (bounds.0 ∷ []) (rows_in form (drop (i + 1) contracts) left))
    ∙ ap result_err (sym (rows_in-contract form [] (bounds.0 ∷ []) contracts i c lines left bounds.0 inside is_c bounds.1 refl))
    ∙ fault_ahead [] (rows_in form (drop i contracts) lines) ∙ same

pub fault-ended : (form : Form) (contracts : List Contract) (i : ℕ) (lines : List (List ℕ)) (whole : Result (List (List Bound)) CertificateFault) (found : Option CertificateFault) → length contracts ≤ i
    → MatchOption found (ending_in form lines ≡ Ok []) (λ fault. ending_in form lines ≡ Err fault)
    → result_err (rows_in form (drop i contracts) lines) ≡ result_err whole → found ≡ result_err whole
fault-ended form contracts i lines whole None all end same =
    sym (ap result_err (rows_in-ended form [] contracts i lines all end)) ∙ fault_ahead [] (rows_in form (drop i contracts) lines) ∙ same
fault-ended form contracts i lines whole (Some fault) all end same =
    fault-bad (rows_in form (drop i contracts) lines) whole fault (rows_in-excess form [] contracts i lines fault all end) same
