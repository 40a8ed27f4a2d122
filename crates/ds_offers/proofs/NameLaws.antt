-- Names as texts, and the contracts that have them.
use Rattle.std.proofs.Common.{◌≡◌, ◌<◌, ℕ, zero, suc, Bool, true, false, List, [], ◌∷◌, ◌++◌, length, Option, None, Some, inl, inr, IsTrue, IsUtf8, get_or, is_some, position, refl, sym, subst, ◌∙◌, arith, rules, bytes_eq}
use Rattle.std.proofs.lemmas.Bool.Decides.{nat_tests}
use Rattle.std.proofs.lemmas.Bool.{cases_Bool}
use Rattle.std.proofs.lemmas.List.Folds.{list_any-append}
use Rattle.std.proofs.lemmas.Str.{IsUtf8-from_ascii}
use Rattle.std.specs.Cmp.Lexicographic.{bytes_decides}
use Rattle.std.specs.List.{list_all, list_any}
use Rattle.std.specs.Map.{lookup}
use Rattle.indexmap.specs.IndexMap.{insert_entry}
use Rattle.ds_domain_base.specs.Names.{is_name, is_name_character}
use Rattle.ds_domain_base.specs.declared.contract.Contract.{Contract}
use Rattle.ds_domain_base.proofs.EntryLaws.{new_entry}
use Rattle.ds_offers.specs.Offered.{AreOffered, has_name}
use Rattle.ds_offers.proofs.NamedLaws.{noted_before, noted_new}

character_is_ascii : (c : ℕ) → is_name_character c ≡ true → c < 128
character_is_ascii c h = grind (arith, nat_tests)

all_ascii : (text : List ℕ) → list_all is_name_character text ≡ true → (i : ℕ) → get_or text i 0 < 128
all_ascii [] h i = omega arith
all_ascii (c ∷ text) h zero = character_is_ascii c (search (rules, h))
all_ascii (c ∷ text) h (suc i) = all_ascii text (search (rules, h)) i

-- a name is a text
pub name_is_text : (text : List ℕ) → IsTrue (is_name text) → IsUtf8 text
unfolding is_name
name_is_text text h = IsUtf8-from_ascii text (all_ascii text (search (rules, h)))

-- a contract stands at some place under a name that one has
pub is_some-position : {X : Type 0} (test : X → Bool) (xs : List X) → is_some (position test xs) ≡ list_any test xs
is_some-position test [] = refl
is_some-position test (x ∷ xs) = by (test x) refl (is_some-position test xs)
  where
    by : (here : Bool) → test x ≡ here → is_some (position test xs) ≡ list_any test xs → is_some (position test (x ∷ xs)) ≡ list_any test (x ∷ xs)
    by true is more = rw is (grind (arith, nat_tests))
    by false is more = rw is (grind (arith, nat_tests, more))

is_none : {X : Type 0} (found : Option X) → is_some found ≡ false → found ≡ None
is_none None h = refl
is_none (Some x) h = absurd cc

-- a text that is no name is that of no contract
pub no_place : (places : List (List ℕ × ℕ)) (contracts : List Contract) (text : List ℕ) → AreOffered places contracts → ¬ (IsTrue (is_name text))
    → position (λ (c : Contract). bytes_eq text c.name) contracts ≡ None
no_place places contracts text kept other =
    is_none (position (λ (c : Contract). bytes_eq text c.name) contracts) (is_some-position (λ (c : Contract). bytes_eq text c.name) contracts ∙ none)
  where
    none : has_name contracts text ≡ false
    none = elim (cases_Bool (has_name contracts text)) [
      | inl there ↦ absurd (other (kept.named text there))
      | inr gone ↦ gone
    ]

-- names are names with one more that is
named_push : (contracts : List Contract) (c : Contract) → ((name : List ℕ) → IsTrue (has_name contracts name) → IsTrue (is_name name)) → IsTrue (is_name c.name)
    → (name : List ℕ) → IsTrue (has_name (contracts ++ c ∷ []) name) → IsTrue (is_name name)
named_push contracts c named own name has = elim (cases_Bool (bytes_eq name c.name)) [
  | inl same ↦ subst (λ text. IsTrue (is_name text)) (sym ((bytes_decides name c.name).0 same)) own
  | inr differs ↦ named name (search (rules, list_any-append (λ (d : Contract). bytes_eq name d.name) contracts (c ∷ []), differs, has))
]

-- a contract of a new name is noted with its place
pub offered_push : (places new : List (List ℕ × ℕ)) (contracts : List Contract) (c : Contract) → AreOffered places contracts → IsTrue (is_name c.name)
    → is_some (lookup (bytes_eq c.name) places) ≡ false → new ≡ insert_entry bytes_eq places c.name (length contracts)
    → AreOffered new (contracts ++ c ∷ [])
offered_push places new contracts c kept own absent put = record {
  named = named_push contracts c kept.named own;
  placed = rw (put ∙ new_entry bytes_eq places c.name (length contracts) (is_none (lookup (bytes_eq c.name) places) absent))
      (noted_new (λ key. key) places contracts c c.name (length contracts) refl refl kept.placed);
}

-- and one of a name that another has is not
pub offered_again : (places : List (List ℕ × ℕ)) (contracts : List Contract) (c : Contract) → AreOffered places contracts → IsTrue (is_name c.name)
    → is_some (lookup (bytes_eq c.name) places) ≡ true
    → AreOffered places (contracts ++ c ∷ [])
offered_again places contracts c kept own known = record {
  named = named_push contracts c kept.named own;
  placed = noted_before (λ key. key) places contracts c known kept.placed;
}
