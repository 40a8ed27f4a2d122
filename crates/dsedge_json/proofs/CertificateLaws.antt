-- The object of a certificate: how it is written, that it reads as the same, and that the text is made of it.
use Rattle.std.proofs.Common.{◌≡◌, ℕ, ◌+◌, ◌<◌, ◌≤◌, suc, max, Bool, true, false, List, [], ◌∷◌, ◌++◌, codes, decimal, drop, length, get_or, Result, Ok, Err, OnOk, ◌⊎◌, inl, inr, append_assoc, append-nil, refl, sym, ap, subst, ◌∙◌, arith}
use Rattle.std.proofs.lemmas.Fmt.{decimal_digit}
use Rattle.std.proofs.lemmas.List.{drop_all, drop_more}
use Rattle.std.proofs.lemmas.Bool.Decides.{nat_tests}
use Rattle.json.specs.Token.{Token, end_array}
use Rattle.json.specs.Token as token
use Rattle.json.specs.Tree.{items_tokens, json_tokens}
use Rattle.json.specs.Written.{Writes, Written}
use Rattle.serde_json.specs.Data.{Data, depth, items_depth, member, no_members, object, string}
use Rattle.serde_json.specs.Read.{max_depth}
use Rattle.serde_json.specs.View.{items_of}
use Rattle.serde_json.specs.Written.{items_outline, outline}
use Rattle.json_lines.specs.JsonLines.{figure_data, words_line}
use Rattle.json_lines.proofs.FigureLaws.{figure_flat, figure_said}
use Rattle.json_lines.proofs.WholeLaws.{AreWhole, AreWhole-append, IsWhole, array_whole, figure_whole, string_whole}
use Rattle.ds_domain_base.specs.declared.contract.Contract.{Contract}
use Rattle.ds_certificate.specs.Columns.{Bound}
use Rattle.ds_certificate.specs.Texts.{ended, form_of, line_of, lines_for, lines_from, text_in, text_of}
use Rattle.dsedge_json.specs.Certificates.{IsToldBehind, are_short, bound_data, bound_keys, bounds_for, bounds_from, bounds_lines, certificate_data, certificate_data_in, certificate_text_in, tokens_of, version_of}

-- ---- it reads as the same

five_whole : (a b c d e : Data) → IsWhole a → IsWhole b → IsWhole c → IsWhole d → IsWhole e
    → IsWhole (object (member (codes "all") a (member (codes "contract") b (member (codes "excess") c (member (codes "green") d (member (codes "hop") e no_members))))))
five_whole a b c d e wa wb wc wd we =
    record {
      reads = rw (wa.reads, wb.reads, wc.reads, wd.reads, we.reads) refl;
      deep = rw (wa.deep, wb.deep, wc.deep, wd.deep, we.deep) refl;
    }

bound_whole : (name : List ℕ) (hop : ℕ) (b : Bound) → IsWhole (bound_data name hop b)
bound_whole name hop b =
    five_whole _ _ _ _ _ (figure_whole b.all) (string_whole name) (figure_whole b.excess) (figure_whole b.green) (figure_whole hop)

from_whole : (name : List ℕ) (hop : ℕ) (bounds : List Bound) → AreWhole (bounds_from name hop bounds)
unfolding bounds_from
from_whole name hop [] = tt
from_whole name hop (bound ∷ bounds) = (bound_whole name hop bound, from_whole name (suc hop) bounds)

for_whole : (contracts : List Contract) (rows : List (List Bound)) → AreWhole (bounds_for contracts rows)
unfolding bounds_for
for_whole [] rows = tt
for_whole (c ∷ contracts) [] = tt
for_whole (c ∷ contracts) (bounds ∷ rows) =
    AreWhole-append (bounds_from c.name 0 bounds) (bounds_for contracts rows) (from_whole c.name 0 bounds) (for_whole contracts rows)

three_whole : (a b c : Data) → IsWhole a → IsWhole b → IsWhole c
    → IsWhole (object (member (codes "answer") a (member (codes "bounds") b (member (codes "version") c no_members))))
three_whole a b c wa wb wc =
    record {
      reads = rw (wa.reads, wb.reads, wc.reads) refl;
      deep = rw (wa.deep, wb.deep, wc.deep) refl;
    }

pub certificate_whole : (contracts : List Contract) (rows : List (List Bound)) → IsWhole (certificate_data contracts rows)
certificate_whole contracts rows =
    three_whole _ _ _ (string_whole (codes "certificate")) (array_whole (bounds_for contracts rows) (for_whole contracts rows))
    (figure_whole (version_of (are_short rows)))

-- ---- it nests twice

abbrev pub NestOnce : List Data → Type 0
NestOnce [] = Unit {0}
NestOnce (d ∷ ds) = (depth d ≡ 1) × NestOnce ds

nest-append : (xs ys : List Data) → NestOnce xs → NestOnce ys → NestOnce (xs ++ ys)
nest-append [] ys nest more = more
nest-append (x ∷ xs) ys nest more = (nest.0, nest-append xs ys nest.1 more)

five_flat : (a b c d e : Data) → depth a ≡ 0 → depth b ≡ 0 → depth c ≡ 0 → depth d ≡ 0 → depth e ≡ 0
    → depth (object (member (codes "all") a (member (codes "contract") b (member (codes "excess") c (member (codes "green") d (member (codes "hop") e no_members)))))) ≡ 1
five_flat a b c d e fa fb fc fd fe = rw (fa, fb, fc, fd, fe) refl

from_nest : (name : List ℕ) (hop : ℕ) (bounds : List Bound) → NestOnce (bounds_from name hop bounds)
unfolding bounds_from
from_nest name hop [] = tt
from_nest name hop (bound ∷ bounds) = (
  five_flat (figure_data bound.all) (string name) (figure_data bound.excess) (figure_data bound.green) (figure_data hop) (figure_flat bound.all) refl (figure_flat bound.excess) (figure_flat bound.green) (figure_flat hop),
  from_nest name (suc hop) bounds,
)

for_nest : (contracts : List Contract) (rows : List (List Bound)) → NestOnce (bounds_for contracts rows)
unfolding bounds_for
for_nest [] rows = tt
for_nest (c ∷ contracts) [] = tt
for_nest (c ∷ contracts) (bounds ∷ rows) =
    nest-append (bounds_from c.name 0 bounds) (bounds_for contracts rows) (from_nest c.name 0 bounds) (for_nest contracts rows)

max_below : (a b c : ℕ) → a ≤ c → b ≤ c → max a b ≤ c
max_below a b c ha hb = grind (arith, nat_tests)

items_shallow : (ds : List Data) → NestOnce ds → items_depth (items_of ds) ≤ 1
items_shallow [] nest = omega arith
items_shallow (d ∷ ds) nest = rw nest.0 (max_below 1 (items_depth (items_of ds)) 1 (omega arith) (items_shallow ds nest.1))

deep_enough : (n v : ℕ) → n ≤ 1 → v ≡ 0 → suc (max 0 (max (suc n) (max v 0))) ≤ max_depth
deep_enough n v h e = grind (arith, nat_tests)

pub certificate_shallow : (contracts : List Contract) (rows : List (List Bound)) → depth (certificate_data contracts rows) ≤ max_depth
certificate_shallow contracts rows =
    deep_enough (items_depth (items_of (bounds_for contracts rows))) (depth (figure_data (version_of (are_short rows))))
    (items_shallow (bounds_for contracts rows) (for_nest contracts rows)) (figure_flat (version_of (are_short rows)))

-- ---- its tokens

-- what was written in two parts, and what was written by one token
pub told-then : (a b : List Token) (first second third : Written) → IsToldBehind a first second → IsToldBehind b second third → IsToldBehind (a ++ b) first third
told-then a b first second third one two =
    record {
      tokens = two.tokens ∙ ap (λ ts. ts ++ b) one.tokens ∙ append_assoc first.tokens a b;
      before = two.before ∙ one.before;
    }

pub told-one : (t : Token) (first second : Written) → second.tokens ≡ first.tokens ++ t ∷ [] → second.before ≡ first.before → IsToldBehind (t ∷ []) first second
told-one t first second tokens before = record { tokens = tokens; before = before }

-- an array's tokens are those of its elements, and the bracket that ends it
pub items_tokens-of : (ds : List Data) → items_tokens (items_outline (items_of ds)) ≡ tokens_of ds ++ end_array ∷ []
items_tokens-of [] = refl
items_tokens-of (d ∷ ds) =
    ap (λ ts. json_tokens (outline d) ++ ts) (items_tokens-of ds) ∙ sym (append_assoc (json_tokens (outline d)) (tokens_of ds) (end_array ∷ []))

-- an object is the rest of what it is written as, once its last token was written
pub on_last : {E : Type 0} (r : Result (Unit {0}) E) (t : Token) (old new : Written) (P : Type 0) → Writes r old new t → (IsToldBehind (t ∷ []) old new → P) → OnOk r P
on_last (Ok done) t old new P wrote whole = whole (told-one t old new wrote.ok wrote.room.0)
on_last (Err fault) t old new P wrote whole = tt

-- the tokens of the object of a certificate
certificate_tokens : (contracts : List Contract) (rows : List (List Bound))
    → token.begin_object ∷ token.key (codes "answer") ∷ token.string (codes "certificate") ∷ token.key (codes "bounds") ∷ token.begin_array ∷ (tokens_of (bounds_for contracts rows) ++ (token.end_array ∷ token.key (codes "version") ∷ (json_tokens (outline (figure_data (version_of (are_short rows)))) ++ token.end_object ∷ [])))
    ≡ json_tokens (outline (certificate_data contracts rows))
certificate_tokens contracts rows =
    let bounds = bounds_for contracts rows in
    let last = token.key (codes "version") ∷ (json_tokens (outline (figure_data (version_of (are_short rows)))) ++ token.end_object ∷ []) in
    let kept : items_tokens (items_outline (items_of bounds)) ++ last ≡ tokens_of bounds ++ (token.end_array ∷ last) =
    ap (λ ts. ts ++ last) (items_tokens-of bounds) ∙ append_assoc (tokens_of bounds) (token.end_array ∷ []) last in
    ap (λ ts. token.begin_object ∷ token.key (codes "answer") ∷ token.string (codes "certificate") ∷ token.key (codes "bounds") ∷ token.begin_array ∷ ts) (sym kept)

-- what is written of a certificate, part by part, is its object
pub certificate_told : (contracts : List Contract) (rows asked : List (List Bound)) (number : ℕ) (w0 w1 w2 w3 w4 w5 w6 w7 w8 : Written)
    → asked ≡ rows → number ≡ version_of (are_short rows)
    → IsToldBehind (token.begin_object ∷ []) w0 w1 → IsToldBehind (token.key (codes "answer") ∷ token.string (codes "certificate") ∷ []) w1 w2
    → IsToldBehind (token.key (codes "bounds") ∷ []) w2 w3 → IsToldBehind (token.begin_array ∷ []) w3 w4
    → IsToldBehind (tokens_of (bounds_for contracts asked)) w4 w5 → IsToldBehind (token.end_array ∷ []) w5 w6
    → IsToldBehind (token.key (codes "version") ∷ json_tokens (outline (figure_data number))) w6 w7 → IsToldBehind (token.end_object ∷ []) w7 w8
    → IsToldBehind (json_tokens (outline (certificate_data contracts rows))) w0 w8
certificate_told contracts rows asked number w0 w1 w2 w3 w4 w5 w6 w7 w8 same is one two three four five six seven eight =
    let bounds : IsToldBehind (tokens_of (bounds_for contracts rows)) w4 w5 =
    subst (λ (r : List (List Bound)). IsToldBehind (tokens_of (bounds_for contracts r)) w4 w5) same five in
    let version : IsToldBehind (token.key (codes "version") ∷ json_tokens (outline (figure_data (version_of (are_short rows))))) w6 w7 =
    subst (λ (n : ℕ). IsToldBehind (token.key (codes "version") ∷ json_tokens (outline (figure_data n))) w6 w7) is seven in
    let told = told-then _ _ w0 w1 w8 one (told-then _ _ w1 w2 w8 two (told-then _ _ w2 w3 w8 three (told-then _ _ w3 w4 w8 four
    (told-then _ _ w4 w5 w8 bounds (told-then _ _ w5 w6 w8 six (told-then _ _ w6 w7 w8 version eight)))))) in
    record {
      tokens = told.tokens ∙ ap (λ ts. w0.tokens ++ ts) (certificate_tokens contracts rows);
      before = told.before;
    }

tokens_of-append : (xs ys : List Data) → tokens_of (xs ++ ys) ≡ tokens_of xs ++ tokens_of ys
tokens_of-append [] ys = refl
tokens_of-append (x ∷ xs) ys =
    ap (λ ts. json_tokens (outline x) ++ ts) (tokens_of-append xs ys) ∙ sym (append_assoc (json_tokens (outline x)) (tokens_of xs) (tokens_of ys))

-- one bound more
pub bounds-more : (front more : List Token) (name : List ℕ) (hop i : ℕ) (b : Bound) (bounds : List Bound) (whole : List Token) → i < length bounds → b ≡ get_or bounds i b
    → more ≡ front ++ json_tokens (outline (bound_data name hop b)) → front ++ tokens_of (bounds_from name hop (drop i bounds)) ≡ whole
    → more ++ tokens_of (bounds_from name (hop + 1) (drop (i + 1) bounds)) ≡ whole
unfolding bounds_from
bounds-more front more name hop i b bounds whole inside is_b is_more kept =
    let here : drop i bounds ≡ b ∷ drop (i + 1) bounds = drop_more bounds i b inside ∙ ap (λ x. x ∷ drop (i + 1) bounds) (sym is_b) in
    let next : suc hop ≡ hop + 1 = omega arith in
    let own = json_tokens (outline (bound_data name hop b)) in
    let before = ap (λ left. front ++ tokens_of (bounds_from name hop left)) here in
    let moved = ap (λ h. front ++ (own ++ tokens_of (bounds_from name h (drop (i + 1) bounds)))) next in
    ap (λ text. text ++ tokens_of (bounds_from name (hop + 1) (drop (i + 1) bounds))) is_more
    ∙ append_assoc front own (tokens_of (bounds_from name (hop + 1) (drop (i + 1) bounds))) ∙ sym moved ∙ sym before ∙ kept

pub bounds-ended : (front : List Token) (name : List ℕ) (hop i : ℕ) (bounds : List Bound) (whole : List Token) → length bounds ≤ i
    → front ++ tokens_of (bounds_from name hop (drop i bounds)) ≡ whole → front ≡ whole
unfolding bounds_from
bounds-ended front name hop i bounds whole all kept =
    sym (append-nil front) ∙ ap (λ left. front ++ tokens_of (bounds_from name hop left)) (sym (drop_all i bounds all)) ∙ kept

-- a contract more: xs and ys are the contracts and the rows that were left before it
pub rows-more : (front more : List Token) (xs contracts : List Contract) (c : Contract) (ys rows : List (List Bound)) (bounds : List Bound) (whole : List Token)
    → xs ≡ c ∷ contracts → ys ≡ bounds ∷ rows → more ≡ front ++ tokens_of (bounds_from c.name 0 bounds)
    → front ++ tokens_of (bounds_for xs ys) ≡ whole → more ++ tokens_of (bounds_for contracts rows) ≡ whole
unfolding bounds_for
rows-more front more xs contracts c ys rows bounds whole are said is_more kept =
    let before : tokens_of (bounds_for xs ys) ≡ tokens_of (bounds_from c.name 0 bounds) ++ tokens_of (bounds_for contracts rows) =
    rw (are, said) (tokens_of-append (bounds_from c.name 0 bounds) (bounds_for contracts rows)) in
    rw is_more (append_assoc front (tokens_of (bounds_from c.name 0 bounds)) (tokens_of (bounds_for contracts rows)) ∙ ap (λ text. front ++ text) (sym before) ∙ kept)

none_left : (xs : List Contract) (ys : List (List Bound)) → (xs ≡ []) ⊎ (ys ≡ []) → bounds_for xs ys ≡ []
unfolding bounds_for
none_left [] ys ended = refl
none_left (c ∷ xs) [] ended = refl
none_left (c ∷ xs) (bounds ∷ ys) (inl ended) = absurd cc
none_left (c ∷ xs) (bounds ∷ ys) (inr ended) = absurd cc

pub rows-ended : (front : List Token) (xs : List Contract) (ys : List (List Bound)) (whole : List Token) → (xs ≡ []) ⊎ (ys ≡ [])
    → front ++ tokens_of (bounds_for xs ys) ≡ whole → front ≡ whole
rows-ended front xs ys whole ended kept =
    sym (append-nil front) ∙ ap (λ (left : List Data). front ++ tokens_of left) (sym (none_left xs ys ended)) ∙ kept

-- ---- the text is made of it

short_line : (name hop green all : List ℕ) → name ++ (32 ∷ (hop ++ (32 ∷ (green ++ (32 ∷ (all ++ (10 ∷ [])))))))
    ≡ (name ++ codes " " ++ hop ++ codes " " ++ green ++ codes " " ++ all ++ []) ++ 10 ∷ []
short_line name hop green all = simp append_assoc

long_line : (name hop green all excess : List ℕ) → name ++ (32 ∷ (hop ++ (32 ∷ (green ++ (32 ∷ (all ++ (32 ∷ (excess ++ (10 ∷ [])))))))))
    ≡ (name ++ codes " " ++ hop ++ codes " " ++ green ++ codes " " ++ all ++ (codes " " ++ excess)) ++ 10 ∷ []
long_line name hop green all excess = simp append_assoc

-- rows whose text has the form that says no excess, and rows whose text says it
abbrev sample : Bool → List (List Bound)
sample true = []
sample false = (record { green = 0; all = 0; excess = 1 } ∷ []) ∷ []

same_form_by : (short : Bool) (contracts : List Contract) (rows : List (List Bound)) → are_short rows ≡ short
    → text_in (form_of (sample short)) contracts rows ≡ text_of contracts rows
same_form_by true contracts rows is = rw is refl
same_form_by false contracts rows is = rw is refl

bound_says : (short : Bool) (name : List ℕ) (hop : ℕ) (b : Bound)
    → words_line (bound_keys short) (bound_data name hop b) ≡ line_of (form_of (sample short)) name hop b ++ 10 ∷ []
bound_says true name hop b =
    rw (figure_said b.all, figure_said b.green, figure_said hop) (short_line name (decimal hop) (decimal b.green) (decimal b.all))
bound_says false name hop b =
    rw (figure_said b.all, figure_said b.excess, figure_said b.green, figure_said hop)
    (long_line name (decimal hop) (decimal b.green) (decimal b.all) (decimal b.excess))

bounds_lines-append : (is_short : Bool) (xs ys : List Data) → bounds_lines is_short (items_of (xs ++ ys)) ≡ bounds_lines is_short (items_of xs) ++ bounds_lines is_short (items_of ys)
bounds_lines-append is_short [] ys = refl
bounds_lines-append is_short (x ∷ xs) ys =
    ap (λ tail. words_line (bound_keys is_short) x ++ tail) (bounds_lines-append is_short xs ys)
    ∙ sym (append_assoc (words_line (bound_keys is_short) x) (bounds_lines is_short (items_of xs)) (bounds_lines is_short (items_of ys)))

ended-append : (xs ys : List (List ℕ)) → ended (xs ++ ys) ≡ ended xs ++ ended ys
unfolding ended
ended-append [] ys = refl
ended-append (x ∷ xs) ys = ap (λ text. x ++ 10 ∷ text) (ended-append xs ys) ∙ sym (append_assoc x (10 ∷ ended xs) (ended ys))

from_says : (short : Bool) (name : List ℕ) (hop : ℕ) (bounds : List Bound)
    → bounds_lines short (items_of (bounds_from name hop bounds)) ≡ ended (lines_from (form_of (sample short)) name hop bounds)
unfolding bounds_from lines_from ended
from_says short name hop [] = refl
from_says short name hop (b ∷ bounds) =
    ap (λ line. line ++ bounds_lines short (items_of (bounds_from name (suc hop) bounds))) (bound_says short name hop b)
    ∙ append_assoc (line_of (form_of (sample short)) name hop b) (10 ∷ []) (bounds_lines short (items_of (bounds_from name (suc hop) bounds)))
    ∙ ap (λ text. line_of (form_of (sample short)) name hop b ++ 10 ∷ text) (from_says short name (suc hop) bounds)

for_says : (short : Bool) (contracts : List Contract) (rows : List (List Bound))
    → bounds_lines short (items_of (bounds_for contracts rows)) ≡ ended (lines_for (form_of (sample short)) contracts rows)
unfolding bounds_for lines_for ended
for_says short [] rows = refl
for_says short (c ∷ contracts) [] = refl
for_says short (c ∷ contracts) (bounds ∷ rows) =
    bounds_lines-append short (bounds_from c.name 0 bounds) (bounds_for contracts rows)
    ∙ (ap (λ text. text ++ bounds_lines short (items_of (bounds_for contracts rows))) (from_says short c.name 0 bounds)
    ∙ ap (λ text. ended (lines_from (form_of (sample short)) c.name 0 bounds) ++ text) (for_says short contracts rows))
    ∙ sym (ended-append (lines_from (form_of (sample short)) c.name 0 bounds) (lines_for (form_of (sample short)) contracts rows))

certificate_says_in : (short : Bool) (contracts : List Contract) (rows : List (List Bound))
    → certificate_text_in (certificate_data_in short contracts rows) ≡ text_in (form_of (sample short)) contracts rows
unfolding ended
certificate_says_in true contracts rows = rw (decimal_digit 1 (omega arith)) (ap (λ text. codes "dscert 1\n" ++ text) (for_says true contracts rows))
certificate_says_in false contracts rows = rw (decimal_digit 2 (omega arith)) (ap (λ text. codes "dscert 2\n" ++ text) (for_says false contracts rows))

pub certificate_says : (contracts : List Contract) (rows : List (List Bound)) → certificate_text_in (certificate_data contracts rows) ≡ text_of contracts rows
certificate_says contracts rows = certificate_says_in (are_short rows) contracts rows ∙ same_form_by (are_short rows) contracts rows refl
