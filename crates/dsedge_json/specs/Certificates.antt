-- The object of JSON that says what the text of a certificate says, how it is written token by token, and how the text is
-- made of it.
use Rattle.std.specs.Prelude.{◌≡◌, ℕ, suc, nat_eq, Bool, true, false, if◌then◌else◌, List, [], ◌∷◌, ◌++◌, codes, flat_map, Option, None, Some}
use Rattle.std.specs.List.{list_all}
use Rattle.json.specs.Token.{Token}
use Rattle.json.specs.Tree.{json_tokens}
use Rattle.json.specs.Written.{Written}
use Rattle.serde_json.specs.Data.{Data, Items, Num, array, boolean, float, item, member, negative, no_items, no_members, null, number, object, string, unsigned}
use Rattle.serde_json.specs.Find.{get}
use Rattle.serde_json.specs.View.{items_of}
use Rattle.serde_json.specs.Written.{outline}
use Rattle.json_lines.specs.JsonLines.{figure_data, word_before, words_line}
use Rattle.ds_domain_base.specs.declared.contract.Contract.{Contract}
use Rattle.ds_certificate.specs.Columns.{Bound}
use Rattle.ds_certificate.specs.Texts.{is_short}
use Rattle.dsedge_json.specs.Objects.{answer_key}

-- a bound of a contract at a hop
abbrev pub bound_data : List ℕ → ℕ → Bound → Data
bound_data name hop b = object
    (member (codes "all") (figure_data b.all)
    (member (codes "contract") (string name)
    (member (codes "excess") (figure_data b.excess)
    (member (codes "green") (figure_data b.green)
    (member (codes "hop") (figure_data hop) no_members)))))

-- the bounds of a contract from a hop on
unfoldable pub bounds_from : List ℕ → ℕ → List Bound → List Data
bounds_from name hop [] = []
bounds_from name hop (bound ∷ bounds) = bound_data name hop bound ∷ bounds_from name (suc hop) bounds

-- those of contracts in order
unfoldable pub bounds_for : List Contract → List (List Bound) → List Data
bounds_for (c ∷ contracts) (bounds ∷ rows) = bounds_from c.name 0 bounds ++ bounds_for contracts rows
bounds_for contracts rows = []

-- whether a text says no excess: every one is its all
abbrev pub are_short : List (List Bound) → Bool
are_short rows = list_all (list_all is_short) rows

-- the number of the form of a text, by whether it says no excess
abbrev pub version_of : Bool → ℕ
version_of true = 1
version_of false = 2

-- a certificate, whose text says no excess or says it
abbrev pub certificate_data_in : Bool → List Contract → List (List Bound) → Data
certificate_data_in short contracts rows = object
    (member answer_key (string (codes "certificate"))
    (member (codes "bounds") (array (items_of (bounds_for contracts rows)))
    (member (codes "version") (figure_data (version_of short)) no_members)))

abbrev pub certificate_data : List Contract → List (List Bound) → Data
certificate_data contracts rows = certificate_data_in (are_short rows) contracts rows

-- ---- how an object is written

-- the tokens of values, one after the other
abbrev pub tokens_of : List Data → List Token
tokens_of contents = flat_map (λ content. json_tokens (outline content)) contents

-- tokens were written behind what stood, and nothing else was touched
pub record IsToldBehind (more : List Token) (old new : Written) : Type 0 where
  pub tokens : new.tokens ≡ old.tokens ++ more
  pub before : new.before ≡ old.before

-- ---- the text that it says

-- the keys of a bound in the order of its line, which says no excess in the first form
abbrev pub bound_keys : Bool → List (List ℕ)
bound_keys short =
    codes "contract" ∷ codes "hop" ∷ codes "green" ∷ codes "all" ∷ (if short then [] else (codes "excess" ∷ []))

abbrev pub is_one : Num → Bool
is_one (unsigned n) = nat_eq n 1
is_one (negative z) = false
is_one (float x) = false

abbrev pub is_first : Option Data → Bool
is_first None = false
is_first (Some null) = false
is_first (Some (boolean b)) = false
is_first (Some (number n)) = is_one n
is_first (Some (string text)) = false
is_first (Some (array elements)) = false
is_first (Some (object entries)) = false

abbrev pub bounds_lines : Bool → Items → List ℕ
bounds_lines short no_items = []
bounds_lines short (item bound bounds) = words_line (bound_keys short) bound ++ bounds_lines short bounds

abbrev pub lines_of_bounds : Bool → Option Data → List ℕ
lines_of_bounds short None = []
lines_of_bounds short (Some null) = []
lines_of_bounds short (Some (boolean b)) = []
lines_of_bounds short (Some (number n)) = []
lines_of_bounds short (Some (string text)) = []
lines_of_bounds short (Some (array bounds)) = bounds_lines short bounds
lines_of_bounds short (Some (object entries)) = []

-- the text of a certificate that the object of it is made of
abbrev pub certificate_text_in : Data → List ℕ
certificate_text_in content =
    codes "dscert" ++ word_before (get (codes "version") content) (codes "\n")
    ++ lines_of_bounds (is_first (get (codes "version") content)) (get (codes "bounds") content)
