-- What the token law and a bucket's one-by-one filling come to in closed form.
use Rattle.std.proofs.Common.{◌≡◌, ℕ, ◌+◌, ◌-◌, ◌*◌, ◌/◌, ◌%◌, ◌<◌, ◌≤◌, zero, suc, refl, sym, ◌∙◌, ap, arith, add-zero, mul-zero, inl, inr}
use Rattle.std.proofs.Math.Nat.{div-mul-le_self, mul-add, mul-le-mul_left}
use Rattle.std.proofs.lemmas.Nat.{le-div}
use Rattle.std.proofs.lemmas.Bool.{cases_lt}
use Rattle.std.proofs.lemmas.Bool.Decides.{nat_tests}
use Rattle.moment_core.specs.Tokens.{given, begun_token, tokens_at, each_nanosecond, with_token, with_tokens}

-- a quotient does not fall where what is divided does not
pub div-mono : (a b : ℕ) → a ≤ b → a / 8000000000 ≤ b / 8000000000
div-mono a b h = le-div (a / 8000000000) b 8000000000 (omega arith) (omega (arith, div-mul-le_self a 8000000000))

-- tokens once given stay given
pub given-mono : (rate origin begin end : ℕ) → begin ≤ end → given rate origin begin ≤ given rate origin end
unfolding given
given-mono rate origin begin end h =
    let later : begin - origin ≤ end - origin = omega arith in
    div-mono (rate * (begin - origin)) (rate * (end - origin)) (mul-le-mul_left rate later)

-- no token has been begun at the origin
pub begun_token-origin : (rate origin : ℕ) → begun_token rate origin origin ≡ 0
unfolding begun_token
begun_token-origin rate origin =
    let none : origin - origin ≡ 0 = omega arith in
    rw (none, mul-zero) refl

div-carry : (first more : ℕ) → (more + first % 8000000000) / 8000000000 ≡ (first + more) / 8000000000 - first / 8000000000
div-carry first more = omega arith

mod-carry : (first more : ℕ) → (more + first % 8000000000) % 8000000000 ≡ (first + more) % 8000000000
mod-carry first more = omega arith

pub product-since : (rate origin newest now : ℕ) → origin ≤ newest → newest ≤ now → rate * (newest - origin) + rate * (now - newest) ≡ rate * (now - origin)
product-since rate origin newest now begun later =
    let parts : now - origin ≡ (newest - origin) + (now - newest) = omega arith in
    rw parts (sym (mul-add rate (newest - origin) (now - newest)))

-- the tokens of a span are those of its length beside the part of a token that was begun before it
pub given-since : (rate origin newest now : ℕ) → origin ≤ newest → newest ≤ now
    → (rate * (now - newest) + begun_token rate origin newest) / 8000000000 ≡ given rate origin now - given rate origin newest
unfolding given begun_token
given-since rate origin newest now begun later =
    rw (← product-since rate origin newest now begun later) (div-carry (rate * (newest - origin)) (rate * (now - newest)))

-- and what is over is the part of the next one
pub begun_token-since : (rate origin newest now : ℕ) → origin ≤ newest → newest ≤ now
    → (rate * (now - newest) + begun_token rate origin newest) % 8000000000 ≡ begun_token rate origin now
unfolding begun_token
begun_token-since rate origin newest now begun later =
    rw (← product-since rate origin newest now begun later) (mod-carry (rate * (newest - origin)) (rate * (now - newest)))

pub with_token-below : (size level : ℕ) → level < size → with_token size level ≡ level + 1
unfolding with_token
with_token-below size level room = grind (arith, nat_tests)

pub with_token-at : (size level : ℕ) → size ≤ level → with_token size level ≡ level
unfolding with_token
with_token-at size level full = grind (arith, nat_tests)

pub with_tokens-none : (size level : ℕ) → with_tokens size 0 level ≡ level
unfolding with_tokens
with_tokens-none size level = refl

-- a bucket with room for all of the tokens takes all of them
pub with_tokens_fits : (size count level : ℕ) → level + count ≤ size → with_tokens size count level ≡ level + count
unfolding with_tokens with_token
with_tokens_fits size zero level h = omega arith
with_tokens_fits size (suc count) level h =
    let room : level < size = omega arith in
    let one : with_token size level ≡ level + 1 = with_token-below size level room in
    rw one (with_tokens_fits size count (level + 1) (omega arith) ∙ omega arith)

-- one with less room fills up
pub with_tokens_full : (size count level : ℕ) → level ≤ size → size ≤ level + count → with_tokens size count level ≡ size
unfolding with_tokens with_token
with_tokens_full size zero level w h = omega arith
with_tokens_full size (suc count) level w h =
    elim (cases_lt level size) [
      | inl room ↦
          let one : with_token size level ≡ level + 1 = with_token-below size level room in
          rw one (with_tokens_full size count (level + 1) (omega arith) (omega arith))
      | inr no_room ↦
          let one : with_token size level ≡ level = with_token-at size level no_room in
          rw one (with_tokens_full size count level w (omega arith))
    ]

-- some tokens and then more are all of them
pub with_tokens-add : (size first more level : ℕ) → with_tokens size more (with_tokens size first level) ≡ with_tokens size (first + more) level
unfolding with_tokens
with_tokens-add size zero more level =
    let all : zero + more ≡ more = omega arith in
    rw all refl
with_tokens-add size (suc first) more level =
    let all : suc first + more ≡ suc (first + more) = omega arith in
    rw all (with_tokens-add size first more (with_token size level))

-- The tokens of every nanosecond of a span, one by one, are those that the token law gives over the span.
pub each_nanosecond-with_tokens : (size rate origin from count level : ℕ)
    → each_nanosecond (λ t l. with_tokens size (tokens_at rate origin t) l) from count level
    ≡ with_tokens size (given rate origin (from + count) - given rate origin from) level
unfolding each_nanosecond tokens_at
each_nanosecond-with_tokens size rate origin from zero level =
    let none : given rate origin (from + 0) - given rate origin from ≡ 0 = rw add-zero (omega arith) in
    sym (rw none (with_tokens-none size level))
each_nanosecond-with_tokens size rate origin from (suc count) level =
    let before : from + suc count - 1 ≡ from + count = omega arith in
    let fell = given-mono rate origin from (from + count) (omega arith) in
    let rose = given-mono rate origin (from + count) (from + suc count) (omega arith) in
    let all : (given rate origin (from + count) - given rate origin from) + (given rate origin (from + suc count) - given rate origin (from + count))
    ≡ given rate origin (from + suc count) - given rate origin from = omega arith in
    rw (each_nanosecond-with_tokens size rate origin from count level, before)
    (with_tokens-add size (given rate origin (from + count) - given rate origin from) (given rate origin (from + suc count) - given rate origin (from + count)) level
    ∙ ap (λ n. with_tokens size n level) all)
