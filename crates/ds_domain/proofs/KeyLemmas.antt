-- The keys of a table as its map has them.
use Rattle.std.proofs.Common.{◌≡◌, ℕ, Bool, true, false, ◌||◌, List, [], ◌∷◌, ◌++◌, String, Global, string_bytes, refl, ap, sym, ◌∙◌, bytes_eq}
use Rattle.std.specs.List.{list_all}
use Rattle.std.specs.Map.{keys_of}
use Rattle.toml.specs.View.{members_view}
use Rattle.toml.specs.declared.value.Value.{Value}
use Rattle.ds_domain_base.specs.Faults.{field_text}
use Rattle.ds_domain_base.specs.declared.fault.Field.{Field}
use Rattle.ds_domain.specs.Keys.{is_key_of, keys_in}

or_or : (x y z : Bool) → x || (y || z) ≡ (x || y) || z
or_or true y z = refl
or_or false y z = refl

-- a key of the one fields or of the others
is_key_of-append : (xs ys : List Field) (key : List ℕ) → is_key_of xs key || is_key_of ys key ≡ is_key_of (xs ++ ys) key
is_key_of-append [] ys key = refl
is_key_of-append (x ∷ xs) ys key =
    sym (or_or (bytes_eq (field_text x) key) (is_key_of xs key) (is_key_of ys key)) ∙ ap (λ more. bytes_eq (field_text x) key || more) (is_key_of-append xs ys key)

-- the test of each key of the map is that of each key of the table
pub keys_in-entries : (xs ys : List Field) (es : List (String Global × Value))
    → list_all (λ key. is_key_of xs (string_bytes key) || is_key_of ys (string_bytes key)) (keys_of es) ≡ list_all (is_key_of (xs ++ ys)) (keys_in (members_view es))
keys_in-entries xs ys [] = refl
keys_in-entries xs ys (e ∷ es) = rw (is_key_of-append xs ys (string_bytes e.0), keys_in-entries xs ys es) refl
