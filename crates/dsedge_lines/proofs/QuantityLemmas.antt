-- Numbers within their ranges.
use Rattle.std.proofs.Common.{◌≡◌, ℕ, ◌≤◌, List, nat_le, Some}
use Rattle.std.proofs.lemmas.Bool.{and_parts, leb-true}
use Rattle.std.proofs.lemmas.Option.{cond_some}
use Rattle.line_text.specs.Numbers.{is_number, number_of, value_of}

-- a number that is read is at most the most
pub number_at_most : (most n : ℕ) (text : List ℕ) → number_of most text ≡ Some n → n ≤ most
unfolding number_of
number_at_most most n text e =
    let read = cond_some _ (value_of text) n e in
    let within = and_parts (is_number text) (nat_le (value_of text) most) read.0 in
    let bound : value_of text ≤ most = leb-true (value_of text) most within.1 in
    rw (← read.1) bound
