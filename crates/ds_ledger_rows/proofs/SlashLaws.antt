-- A name has no slash.
use Rattle.std.proofs.Common.{◌≡◌, ◌≢◌, ◌+◌, ◌<◌, ℕ, List, [], ◌∷◌, ◌++◌, length, take, get_or, All, true, IsTrue, sym, ap, subst, ◌∙◌, arith}
use Rattle.std.specs.List.{list_all}
use Rattle.std.proofs.lemmas.Bool.{and_parts}
use Rattle.std.proofs.lemmas.List.{take_more}
use Rattle.std.proofs.lemmas.List.Elements.{All-cons, All-push}
use Rattle.ds_domain_base.specs.Names.{is_name, is_name_character}
use Rattle.ds_ledger_rows.specs.Sound.{HasNoSlash}

other : (c : ℕ) → is_name_character c ≡ true → c ≢ 47
other c named is = let e : is_name_character 47 ≡ true = subst (λ (x : ℕ). is_name_character x ≡ true) is named in cc

characters : (name : List ℕ) → list_all is_name_character name ≡ true → HasNoSlash name
characters [] h = λ i d low. absurd (omega arith)
characters (c ∷ name) h = let both = and_parts _ _ h in All-cons (λ (x : ℕ). x ≢ 47) c name (other c both.0) (characters name both.1)

pub no_slash : (name : List ℕ) → IsTrue (is_name name) → HasNoSlash name
unfolding is_name
no_slash name named = characters name (and_parts _ _ named).1

-- one name more
pub no_slashes : (names : List (List ℕ)) (i : ℕ) (name : List ℕ) → i < length names → name ≡ get_or names i name → HasNoSlash name → All HasNoSlash (take i names) → All HasNoSlash (take (i + 1) names)
no_slashes names i name low there own before =
    subst (All HasNoSlash) (sym (take_more names i name low ∙ ap (λ (n : List ℕ). take i names ++ n ∷ []) (sym there))) (All-push HasNoSlash (take i names) name before own)
