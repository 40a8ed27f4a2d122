-- Options, one behind the other.
use Rattle.std.proofs.Common.{◌≡◌, ℕ, zero, suc, ◌+◌, ◌≤◌, ◌<◌, ◌⊎◌, Bool, inl, inr, true, false, cond, ◌&&◌, nat_lt, nat_eq, List, [], ◌++◌, length, take, drop, Option, None, Some, Result, Ok, Err, is_ok, OnOk, if◌then◌else◌, length-append, length-drop, refl, sym, ◌∙◌, ap, arith}
use Rattle.std.proofs.lemmas.Bool.Decides.{nat_tests}
use Rattle.std.proofs.lemmas.List.{drop-drop, length-take-le}
use Rattle.pcap_capture.specs.declared.heading.Endianness.{Endianness}
use Rattle.pcapng_capture.specs.Options.{code_at, hashless, hashless_from, hashless_within, is_option, option_from, option_of, option_size, option_within, padded, value_size}
use Rattle.pcapng_capture.proofs.GrammarLaws.{is_less, not_less}

abbrev size_some : ℕ → Option ℕ
size_some size = Some size

size_tests : (short none cut : Bool) (made size : ℕ) → cond short None (cond none None (cond cut None (size_some made))) ≡ Some size → (cut ≡ false) × (made ≡ size)
size_tests true none cut made size h = cc
size_tests false true cut made size h = cc
size_tests false false true made size h = cc
size_tests false false false made size h = (refl, cc)

-- an option is there whole, and has a code and a length
pub option_there : (order : Endianness) (bytes : List ℕ) (size : ℕ) → option_size order bytes ≡ Some size → (4 ≤ size) × (size ≤ length bytes)
unfolding option_size
option_there order bytes size h =
    let tests = size_tests _ _ (nat_lt (length bytes) (4 + padded (value_size order bytes))) (4 + padded (value_size order bytes)) size h in
    let there : 4 + padded (value_size order bytes) ≤ length bytes = not_less (length bytes) (4 + padded (value_size order bytes)) tests.0 in
    (omega (arith, tests.1), omega (arith, tests.1, there))

option_short : (order : Endianness) (bytes : List ℕ) → length bytes < 4 → option_size order bytes ≡ None
unfolding option_size
option_short order bytes h = rw (is_less (length bytes) 4 h) refl

module _ (order : Endianness) (code size : ℕ) where
  from_same : (bytes : List ℕ) (one other : List ℕ → Option (List ℕ)) (found : Option ℕ) → ((whole : ℕ) → found ≡ Some whole → one (drop whole bytes) ≡ other (drop whole bytes))
      → option_from one order code size bytes found ≡ option_from other order code size bytes found
  from_same bytes one other None same = refl
  from_same bytes one other (Some whole) same =
      ap (λ (rest : Option (List ℕ)). cond (is_option order code size bytes) (Some (take size (drop 4 bytes))) rest) (same whole refl)

  option_same : (n m : ℕ) (bytes : List ℕ) → length bytes ≤ n → length bytes ≤ m → option_within n order code size bytes ≡ option_within m order code size bytes
  option_same zero zero bytes h k = refl
  option_same zero (suc m) bytes h k = sym (ap (option_from (option_within m order code size) order code size bytes) (option_short order bytes (omega arith)))
  option_same (suc n) zero bytes h k = ap (option_from (option_within n order code size) order code size bytes) (option_short order bytes (omega arith))
  option_same (suc n) (suc m) bytes h k =
      from_same bytes (option_within n order code size) (option_within m order code size) (option_size order bytes)
      (λ whole is.
      let there = option_there order bytes whole is in
      option_same n m (drop whole bytes) (omega (arith, there.0, there.1, length-drop whole bytes)) (omega (arith, there.0, there.1, length-drop whole bytes)))

  pub option-next : (bytes : List ℕ) → option_of order code size bytes ≡ option_from (option_of order code size) order code size bytes (option_size order bytes)
  unfolding option_of
  option-next bytes =
      option_same (length bytes) (suc (length bytes)) bytes (omega arith) (omega arith)
      ∙ from_same bytes (option_within (length bytes) order code size) (λ rest. option_within (length rest) order code size rest) (option_size order bytes)
      (λ whole is.
      let there = option_there order bytes whole is in
      option_same (length bytes) (length (drop whole bytes)) (drop whole bytes) (omega (arith, there.0, there.1, length-drop whole bytes)) (omega arith))

module _ (order : Endianness) where
  left_same : (bytes : List ℕ) (one other : List ℕ → List ℕ) (found : Option ℕ) → ((whole : ℕ) → found ≡ Some whole → one (drop whole bytes) ≡ other (drop whole bytes))
      → hashless_from one order bytes found ≡ hashless_from other order bytes found
  left_same bytes one other None same = refl
  left_same bytes one other (Some whole) same = ap (λ rest. cond (nat_eq (code_at order bytes) 3) [] (take whole bytes) ++ rest) (same whole refl)

  hashless_same : (n m : ℕ) (bytes : List ℕ) → length bytes ≤ n → length bytes ≤ m → hashless_within n order bytes ≡ hashless_within m order bytes
  hashless_same zero zero bytes h k = refl
  hashless_same zero (suc m) bytes h k = sym (ap (hashless_from (hashless_within m order) order bytes) (option_short order bytes (omega arith)))
  hashless_same (suc n) zero bytes h k = ap (hashless_from (hashless_within n order) order bytes) (option_short order bytes (omega arith))
  hashless_same (suc n) (suc m) bytes h k =
      left_same bytes (hashless_within n order) (hashless_within m order) (option_size order bytes)
      (λ whole is.
      let there = option_there order bytes whole is in
      hashless_same n m (drop whole bytes) (omega (arith, there.0, there.1, length-drop whole bytes)) (omega (arith, there.0, there.1, length-drop whole bytes)))

  pub hashless-next : (bytes : List ℕ) → hashless order bytes ≡ hashless_from (hashless order) order bytes (option_size order bytes)
  unfolding hashless
  hashless-next bytes =
      hashless_same (length bytes) (suc (length bytes)) bytes (omega arith) (omega arith)
      ∙ left_same bytes (hashless_within (length bytes) order) (λ rest. hashless_within (length rest) order rest) (option_size order bytes)
      (λ whole is.
      let there = option_there order bytes whole is in
      hashless_same (length bytes) (length (drop whole bytes)) (drop whole bytes) (omega (arith, there.0, there.1, length-drop whole bytes)) (omega arith))

pub equal : (a b : ℕ) → a ≡ b → nat_eq a b ≡ true
equal a b h = grind (arith, nat_tests)

pub unequal : (a b : ℕ) → (a ≡ b → ⊥) → nat_eq a b ≡ false
unequal a b h = grind (arith, nat_tests)

-- what was put behind a text, if it could be
pub put_rest : {T E : Type 0} (r : Result T E) (after before more wanted : List ℕ) → after ≡ (if is_ok r then before ++ more else before) → before ++ more ≡ wanted → OnOk r (after ≡ wanted)
put_rest (Ok u) after before more wanted put same = put ∙ same
put_rest (Err e) after before more wanted put same = tt

-- a walk over options: what is left of them behind a place
pub record IsWalk (bytes left : List ℕ) (at : ℕ) : Type 0 where
  pub within : at ≤ length bytes
  pub left_is : left ≡ drop at bytes

module _ (order : Endianness) (bytes left : List ℕ) (at : ℕ) (walk : IsWalk bytes left at) where
  pub size_left : length left ≡ length (drop at bytes)
  size_left = ap length walk.left_is

  pub walked : (whole : ℕ) → option_size order left ≡ Some whole → at + whole ≤ length bytes
  walked whole h =
      let there = option_there order left whole h in
      let size : length left ≡ length (drop at bytes) = ap length walk.left_is in
      let within = walk.within in
      omega (arith, there.1, size, within, length-drop at bytes)

  further : (whole : ℕ) → drop whole left ≡ drop (at + whole) bytes
  further whole = ap (drop whole) walk.left_is ∙ drop-drop whole at bytes

  module _ (code size : ℕ) (same : option_of order code size (drop at bytes) ≡ option_of order code size bytes) where
    here : option_of order code size bytes ≡ option_from (option_of order code size) order code size left (option_size order left)
    here = sym same ∙ ap (option_of order code size) (sym walk.left_is) ∙ option-next order code size left

    pub none_left : option_size order left ≡ None → option_of order code size bytes ≡ None
    none_left h = here ∙ ap (option_from (option_of order code size) order code size left) h

    pub found_here : (whole : ℕ) → option_size order left ≡ Some whole → code_at order left ≡ code → value_size order left ≡ size → option_of order code size bytes ≡ Some (take size (drop 4 left))
    found_here whole h k l =
        here ∙ ap (option_from (option_of order code size) order code size left) h ∙ rw (equal (code_at order left) code k, equal (value_size order left) size l) refl

    other : (right fits : Bool) (value rest : Option (List ℕ)) → (right ≡ false) ⊎ (fits ≡ false) → cond (right && fits) value rest ≡ rest
    other false fits value rest h = refl
    other true false value rest h = refl
    other true true value rest (inl h) = cc
    other true true value rest (inr h) = cc

    pub found_behind : (whole : ℕ) → option_size order left ≡ Some whole → (code_at order left ≡ code → ⊥) ⊎ (value_size order left ≡ size → ⊥)
        → option_of order code size (drop (at + whole) bytes) ≡ option_of order code size bytes
    found_behind whole h k =
        sym (here ∙ ap (option_from (option_of order code size) order code size left) h
        ∙ other (nat_eq (code_at order left) code) (nat_eq (value_size order left) size) (Some (take size (drop 4 left))) (option_of order code size (drop whole left))
        (elim k [ inl c ↦ inl (unequal (code_at order left) code c) | inr v ↦ inr (unequal (value_size order left) size v) ])
        ∙ ap (option_of order code size) (further whole))

  hash_here : hashless order (drop at bytes) ≡ hashless_from (hashless order) order left (option_size order left)
  hash_here = ap (hashless order) (sym walk.left_is) ∙ hashless-next order left

  pub none_hashless : option_size order left ≡ None → hashless order (drop at bytes) ≡ left
  none_hashless h = hash_here ∙ ap (hashless_from (hashless order) order left) h

  pub hash_behind : (whole : ℕ) → option_size order left ≡ Some whole → code_at order left ≡ 3 → hashless order (drop at bytes) ≡ hashless order (drop (at + whole) bytes)
  hash_behind whole h k =
      hash_here ∙ ap (hashless_from (hashless order) order left) h ∙ rw (equal (code_at order left) 3 k) (ap (hashless order) (further whole))

  pub option_behind : (whole : ℕ) → option_size order left ≡ Some whole → (code_at order left ≡ 3 → ⊥) → hashless order (drop at bytes) ≡ take whole left ++ hashless order (drop (at + whole) bytes)
  option_behind whole h k =
      hash_here ∙ ap (hashless_from (hashless order) order left) h ∙ rw (unequal (code_at order left) 3 k) (ap (λ rest. take whole left ++ rest) (ap (hashless order) (further whole)))

  pub size_behind : (whole : ℕ) → option_size order left ≡ Some whole → (code_at order left ≡ 3 → ⊥) → length (hashless order (drop at bytes)) ≡ whole + length (hashless order (drop (at + whole) bytes))
  size_behind whole h k =
      let there = option_there order left whole h in
      ap length (option_behind whole h k) ∙ length-append (take whole left) (hashless order (drop (at + whole) bytes))
      ∙ ap (λ n. n + length (hashless order (drop (at + whole) bytes))) (length-take-le whole left there.1)
