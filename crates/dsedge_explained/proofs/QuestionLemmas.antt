-- Words with those that ask for what there is to say of a fault, and without them.
use Rattle.std.proofs.Common.{◌≡◌, ℕ, Bool, inl, inr, not, ◌||◌, List, [], ◌∷◌, map, filter, String, Global, string_bytes, refl, ap}
use Rattle.std.specs.List.{list_any}
use Rattle.std.proofs.lemmas.Bool.{cases_Bool}
use Rattle.dsedge_explained.specs.Asked.{asks, plain_words}

-- one of some words asks
pub list_any-bytes : (words : List (String Global)) → list_any (λ word. asks (string_bytes word)) words ≡ list_any asks (map string_bytes words)
list_any-bytes [] = refl
list_any-bytes (word ∷ words) = ap (λ (found : Bool). asks (string_bytes word) || found) (list_any-bytes words)

-- the words that do not
pub plain_words-bytes : (words : List (String Global)) → map string_bytes (filter (λ word. not (asks (string_bytes word))) words) ≡ plain_words (map string_bytes words)
plain_words-bytes [] = refl
plain_words-bytes (word ∷ words) =
    elim (cases_Bool (asks (string_bytes word))) [
      | inl asked ↦ rw asked (plain_words-bytes words)
      | inr plain ↦ rw plain (ap (λ (front : List (List ℕ)). string_bytes word ∷ front) (plain_words-bytes words))
    ]
