-- What is read of the text of a value is the value, where its parts are read so.
use Rattle.std.proofs.Common.{◌≡◌, ℕ, ◌^◌, ◌<◌, ◌≤◌, Bool, true, false, nat_lt, suc, List, [], ◌∷◌, ◌++◌, decimal, Option, Some, append-nil, refl, sym, ap, ◌∙◌, arith, if◌then◌else◌}
use Rattle.std.specs.Prelude.{option_and_then, option_map}
use Rattle.std.proofs.lemmas.Bool.Decides.{nat_tests}
use Rattle.json.specs.Json as json
use Rattle.json.specs.Lex.{tokens}
use Rattle.json.specs.Print.{print}
use Rattle.json.specs.Token.{Token}
use Rattle.json.specs.Tree as tree
use Rattle.json.specs.Tree.{json_tokens}
use Rattle.json.specs.Written.{Written}
use Rattle.json.proofs.Printed.Trees.{value-json_tokens}
use Rattle.serde_json.specs.Data.{Data, array, depth, items_depth, unsigned}
use Rattle.serde_json.specs.Data as content
use Rattle.serde_json.specs.Read.{max_depth, of_items, of_json, read}
use Rattle.serde_json.specs.View.{items_of}
use Rattle.serde_json.specs.Written.{compact_text, items_outline, outline}
use Rattle.serde_json.proofs.Numbers.{number_of-decimal}
use Rattle.serde_json.proofs.Texts.{print-outline}
use Rattle.json_lines.specs.JsonLines.{IsLineOf, figure_data}

-- the JSON that a value is written as is read as the value
pub record IsWhole (d : Data) : Type 0 where
  pub reads : of_json (outline d) ≡ Some d
  pub deep : tree.depth (outline d) ≡ depth d

pub string_whole : (text : List ℕ) → IsWhole (content.string text)
string_whole text = record { reads = refl; deep = refl }

unsigned_whole : (n : ℕ) → n < 2 ^ 64 → IsWhole (content.number (unsigned n))
unsigned_whole n short =
    record { reads = ap (option_map content.number) (number_of-decimal n short); deep = refl }

figure_whole_by : (is_short : Bool) (n : ℕ) → nat_lt n (2 ^ 64) ≡ is_short
    → IsWhole (if is_short then content.number (unsigned n) else content.string (decimal n))
figure_whole_by true n short = unsigned_whole n (grind (arith, nat_tests))
figure_whole_by false n long = string_whole (decimal n)

pub figure_whole : (n : ℕ) → IsWhole (figure_data n)
figure_whole n = figure_whole_by (nat_lt n (2 ^ 64)) n refl

-- a figure of 64 bits is a number
figure_short_by : (is_short : Bool) (n : ℕ) → is_short ≡ true
    → (if is_short then content.number (unsigned n) else content.string (decimal n)) ≡ content.number (unsigned n)
figure_short_by true n is = refl
figure_short_by false n is = absurd cc

pub figure_short : (n : ℕ) → n < 2 ^ 64 → figure_data n ≡ content.number (unsigned n)
figure_short n short = figure_short_by (nat_lt n (2 ^ 64)) n (grind (arith, nat_tests))

-- values that are all whole
abbrev pub AreWhole : List Data → Type 0
AreWhole [] = Unit {0}
AreWhole (d ∷ ds) = IsWhole d × AreWhole ds

items_read : (ds : List Data) → AreWhole ds → of_items (items_outline (items_of ds)) ≡ Some (items_of ds)
items_read [] whole = refl
items_read (d ∷ ds) whole = rw (whole.0.reads, items_read ds whole.1) refl

items_deep : (ds : List Data) → AreWhole ds → tree.items_depth (items_outline (items_of ds)) ≡ items_depth (items_of ds)
items_deep [] whole = refl
items_deep (d ∷ ds) whole = rw (whole.0.deep, items_deep ds whole.1) refl

pub array_whole : (ds : List Data) → AreWhole ds → IsWhole (array (items_of ds))
array_whole ds whole =
    record {
      reads = ap (option_map array) (items_read ds whole);
      deep = ap suc (items_deep ds whole);
    }

pub AreWhole-append : (xs ys : List Data) → AreWhole xs → AreWhole ys → AreWhole (xs ++ ys)
AreWhole-append [] ys whole more = more
AreWhole-append (x ∷ xs) ys whole more = (whole.0, AreWhole-append xs ys whole.1 more)

-- what is read of tokens: the one value that they are
abbrev read_from : Option (json.Json × List Token) → Option Data
read_from found = option_and_then of_json (option_and_then (λ p. json.if_last p.0 p.1) found)

read_back : (d : Data) (text : List ℕ) → IsWhole d → depth d ≤ max_depth → tokens text ≡ json_tokens (outline d) → read text ≡ Some d
read_back d text whole shallow same =
    ap read_from (ap (json.value max_depth) (same ∙ sym (append-nil _)) ∙ value-json_tokens (outline d) max_depth [] (omega (arith, whole.deep))) ∙ whole.reads

-- what was written token by token is the line of a value
pub line_written : (d : Data) (w : Written) (text : List ℕ) → IsWhole d → depth d ≤ max_depth → w.before ≡ [] → w.tokens ≡ json_tokens (outline d)
    → tokens (print w.tokens) ≡ w.tokens → text ≡ (w.before ++ print w.tokens) ++ 10 ∷ [] → IsLineOf d text
line_written d w text whole shallow empty written back is =
    let printed : print w.tokens ≡ compact_text d = ap print written ∙ print-outline d in
    let same : tokens (compact_text d) ≡ json_tokens (outline d) = ap tokens (sym printed) ∙ (back ∙ written) in
    record {
      line = is ∙ (ap (λ front. (front ++ print w.tokens) ++ 10 ∷ []) empty ∙ ap (λ said. said ++ 10 ∷ []) printed);
      reads_back = read_back d (compact_text d) whole shallow same;
    }
