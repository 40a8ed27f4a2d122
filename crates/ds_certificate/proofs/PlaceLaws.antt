-- How many lines of a certificate's text say what their turns want.
use Rattle.std.proofs.Common.{get_or, ◌≡◌, ℕ, suc, ◌+◌, ◌-◌, ◌≤◌, ◌<◌, nat_lt, zero, true, false, eqb, cond, List, [], ◌∷◌, drop, length, Ok, Err, is_ok, refl, sym, ap, ◌∙◌, arith, if◌then◌else◌}
use Rattle.std.proofs.lemmas.Bool.Decides.{nat_tests}
use Rattle.std.proofs.lemmas.List.{drop_all, drop_more, drop-drop, length-drop}
use Rattle.std.specs.List.{onto_first}
use Rattle.line_text.specs.Lines.{lines_of}
use Rattle.ds_domain_base.specs.declared.contract.Contract.{Contract}
use Rattle.ds_certificate.specs.Columns.{Bound}
use Rattle.ds_certificate.specs.Readings.{bound_in}
use Rattle.ds_certificate.specs.declared.fault.CertificateFault.{CertificateFault}
use Rattle.ds_certificate.specs.Places.{and_said, bounds_said, rows_said}
use Rattle.ds_certificate.specs.declared.form.Form.{Form}

-- a text has at most as many lines as bytes
onto_first-count : (byte : ℕ) (lines : List (List ℕ)) (most : ℕ) → length lines ≤ most → length (onto_first byte lines) ≤ suc most
onto_first-count byte [] most h = omega arith
onto_first-count byte (line ∷ lines) most h = omega (arith, h)

pub lines_of-count : (text : List ℕ) → length (lines_of text) ≤ length text
unfolding lines_of
lines_of-count [] = omega arith
lines_of-count (byte ∷ text) =
    elim (eqb byte 10) as (λ test. length (cond test ([] ∷ lines_of text) (onto_first byte (lines_of text))) ≤ suc (length text)) [
      | true ↦ omega (arith, lines_of-count text)
      | false ↦ onto_first-count byte (lines_of text) (length text) (lines_of-count text)
    ]

-- where no hop is left, no line is said
pub bounds_said-ended : (form : Form) (name : List ℕ) (hop count : ℕ) (lines : List (List ℕ)) → count ≤ hop → bounds_said form name hop (count - hop) lines ≡ 0
unfolding bounds_said
bounds_said-ended form name hop count lines all =
    let none : count - hop ≡ 0 = omega arith in
    rw none refl

pub bounds_said-missing : (form : Form) (name : List ℕ) (hop count : ℕ) (lines : List (List ℕ)) → hop < count → lines ≡ [] → bounds_said form name hop (count - hop) lines ≡ 0
unfolding bounds_said
bounds_said-missing form name hop count lines more none =
    let left : count - hop ≡ suc (count - (hop + 1)) = omega arith in
    rw (left, none) refl

pub bounds_said-bad : (form : Form) (name : List ℕ) (hop count : ℕ) (lines : List (List ℕ)) (line : List ℕ) (rest : List (List ℕ)) (fault : CertificateFault) → hop < count
    → lines ≡ line ∷ rest → bound_in form name hop line ≡ Err fault → bounds_said form name hop (count - hop) lines ≡ 0
unfolding bounds_said
bounds_said-bad form name hop count lines line rest fault more are said =
    let left : count - hop ≡ suc (count - (hop + 1)) = omega arith in
    rw (left, are, said) refl

pub bounds_said-line : (form : Form) (name : List ℕ) (hop count : ℕ) (lines : List (List ℕ)) (line : List ℕ) (rest : List (List ℕ)) (b : Bound) → hop < count
    → lines ≡ line ∷ rest → bound_in form name hop line ≡ Ok b
    → bounds_said form name hop (count - hop) lines ≡ suc (bounds_said form name (hop + 1) (count - (hop + 1)) rest)
unfolding bounds_said
bounds_said-line form name hop count lines line rest b more are said =
    let left : count - hop ≡ suc (count - (hop + 1)) = omega arith in
    let next : suc hop ≡ hop + 1 = omega arith in
    rw (left, are, said, next) refl

-- counts of lines
pub none_left : (done left whole wanted : ℕ) → done + left ≡ whole → left ≡ 0 → whole ≡ wanted → done ≡ wanted
none_left done left whole wanted so none is = omega arith

pub one_more : (done left later whole : ℕ) → done + left ≡ whole → left ≡ suc later → done + 1 + later ≡ whole
one_more done left later whole so is = omega arith

pub all_done : (done count left whole wanted : ℕ) → done + left ≡ whole → left ≡ 0 → whole ≡ wanted → count ≤ done → done ≤ count → count ≡ wanted
all_done done count left whole wanted so none is above below = omega arith

-- the lines behind so many, and behind one more
pub drop-line : (n : ℕ) (lines : List (List ℕ)) (line : List ℕ) (rest : List (List ℕ)) → drop n lines ≡ line ∷ rest → drop (n + 1) lines ≡ rest
drop-line n lines line rest h = sym (drop-drop 1 n lines) ∙ ap (drop 1) h

-- no more lines are said than there are
bounds_said-within : (form : Form) (name : List ℕ) (hop count : ℕ) (lines : List (List ℕ)) → bounds_said form name hop count lines ≤ length lines
unfolding bounds_said
bounds_said-within form name hop zero lines = omega arith
bounds_said-within form name hop (suc count) [] = omega arith
bounds_said-within form name hop (suc count) (line ∷ lines) =
    elim (is_ok (bound_in form name hop line)) as (λ test. (if test then suc (bounds_said form name (suc hop) count lines) else 0) ≤ suc (length lines)) [
      | true ↦ omega (arith, bounds_said-within form name (suc hop) count lines)
      | false ↦ omega arith
    ]

and_said-within : (wanted said later most : ℕ) → said ≤ most → later ≤ most - said → and_said wanted said later ≤ most
and_said-within wanted said later most h k =
    elim (nat_lt said wanted) as (λ test. (if test then said else said + later) ≤ most) [ true ↦ h | false ↦ omega (arith, h, k) ]

rows_said-within : (form : Form) (contracts : List Contract) (lines : List (List ℕ)) → rows_said form contracts lines ≤ length lines
unfolding rows_said
rows_said-within form [] lines = omega arith
rows_said-within form (c ∷ contracts) lines =
    let said = bounds_said form c.name 0 (length c.path + 1) lines in
    let later : rows_said form contracts (drop said lines) ≤ length lines - said = omega (arith, rows_said-within form contracts (drop said lines), length-drop said lines) in
    and_said-within (length c.path + 1) said (rows_said form contracts (drop said lines)) (length lines) (bounds_said-within form c.name 0 (length c.path + 1) lines) later

pub rows_said-count : (form : Form) (contracts : List Contract) (text : List ℕ) → rows_said form contracts (lines_of text) ≤ length text
rows_said-count form contracts text = omega (arith, rows_said-within form contracts (lines_of text), lines_of-count text)

here : (contracts : List Contract) (i : ℕ) (c : Contract) → i < length contracts → c ≡ get_or contracts i c → drop i contracts ≡ c ∷ drop (i + 1) contracts
here contracts i c inside is_c = drop_more contracts i c inside ∙ ap (λ x. x ∷ drop (i + 1) contracts) (sym is_c)

-- the lines of a contract, and those of the next
rows_said-contract : (form : Form) (contracts : List Contract) (i : ℕ) (c : Contract) (lines : List (List ℕ)) → i < length contracts → c ≡ get_or contracts i c
    → rows_said form (drop i contracts) lines
    ≡ and_said (length c.path + 1) (bounds_said form c.name 0 (length c.path + 1) lines) (rows_said form (drop (i + 1) contracts) (drop (bounds_said form c.name 0 (length c.path + 1) lines) lines))
unfolding rows_said
rows_said-contract form contracts i c lines inside is_c = rw (here contracts i c inside is_c) refl

stops : (wanted said later : ℕ) → said < wanted → and_said wanted said later ≡ said
stops wanted said later h = grind (arith, nat_tests)

goes_on : (wanted said later : ℕ) → wanted ≤ said → and_said wanted said later ≡ said + later
goes_on wanted said later h = grind (arith, nat_tests)

at_least : (wanted said later : ℕ) → said ≤ and_said wanted said later
at_least wanted said later = elim (nat_lt said wanted) as (λ test. said ≤ (if test then said else said + later)) [ true ↦ omega arith | false ↦ omega arith ]

-- what a contract's lines add to those before
pub said_more : (form : Form) (contracts : List Contract) (i : ℕ) (c : Contract) (lines : List (List ℕ)) (done said whole : ℕ) → i < length contracts → c ≡ get_or contracts i c
    → said ≡ bounds_said form c.name 0 (length c.path + 1) lines → done + rows_said form (drop i contracts) lines ≡ whole → done + said ≤ whole
said_more form contracts i c lines done said whole inside is_c is so =
    let later = rows_said form (drop (i + 1) contracts) (drop (bounds_said form c.name 0 (length c.path + 1) lines) lines) in
    omega (arith, is, so, rows_said-contract form contracts i c lines inside is_c, at_least (length c.path + 1) (bounds_said form c.name 0 (length c.path + 1) lines) later)

pub said_last : (form : Form) (contracts : List Contract) (i : ℕ) (c : Contract) (lines : List (List ℕ)) (done said whole count : ℕ) → i < length contracts → c ≡ get_or contracts i c
    → said ≡ bounds_said form c.name 0 (length c.path + 1) lines → done + rows_said form (drop i contracts) lines ≡ whole → count ≡ length c.path → said ≤ count → done + said ≡ whole
said_last form contracts i c lines done said whole count inside is_c is so counts few =
    let later = rows_said form (drop (i + 1) contracts) (drop (bounds_said form c.name 0 (length c.path + 1) lines) lines) in
    omega (arith, is, so, rows_said-contract form contracts i c lines inside is_c, stops (length c.path + 1) (bounds_said form c.name 0 (length c.path + 1) lines) later (omega (arith, is, counts, few)))

pub said_on : (form : Form) (contracts : List Contract) (i : ℕ) (c : Contract) (lines rest : List (List ℕ)) (done said whole count : ℕ) → i < length contracts → c ≡ get_or contracts i c
    → said ≡ bounds_said form c.name 0 (length c.path + 1) lines → rest ≡ drop said lines → done + rows_said form (drop i contracts) lines ≡ whole → count ≡ length c.path → count < said
    → done + said + rows_said form (drop (i + 1) contracts) rest ≡ whole
said_on form contracts i c lines rest done said whole count inside is_c is is_rest so counts many =
    let all = bounds_said form c.name 0 (length c.path + 1) lines in
    let later = rows_said form (drop (i + 1) contracts) (drop all lines) in
    let same : rows_said form (drop (i + 1) contracts) rest ≡ later = ap (rows_said form (drop (i + 1) contracts)) (is_rest ∙ ap (λ n. drop n lines) is) in
    omega (arith, is, so, same, rows_said-contract form contracts i c lines inside is_c, goes_on (length c.path + 1) all later (omega (arith, is, counts, many)))

pub said_all : (form : Form) (contracts : List Contract) (i : ℕ) (lines : List (List ℕ)) (done whole : ℕ) → length contracts ≤ i → done + rows_said form (drop i contracts) lines ≡ whole → done ≡ whole
unfolding rows_said
said_all form contracts i lines done whole all so =
    let none : rows_said form (drop i contracts) lines ≡ 0 = ap (λ cs. rows_said form cs lines) (drop_all i contracts all) in
    omega (arith, so, none)
