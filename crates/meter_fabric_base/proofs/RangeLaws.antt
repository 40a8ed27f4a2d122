-- A table of what a function gives of the first numbers.
use Rattle.std.proofs.Common.{◌≡◌, ◌+◌, ◌<◌, ◌≤◌, ℕ, length, map, None, Some, ◌∙◌, ap, arith, slice_get}
use Rattle.std.specs.List.{range_with_len}
use Rattle.std.proofs.lemmas.List.FromFn.{get_or-map-range_with_len, length-map-range_with_len}
use Rattle.std.proofs.lemmas.Option.{slice_get-get_or, slice_get_past}

pub range_within : {X : Type 0} (f : ℕ → X) (n k : ℕ) → k < n → slice_get (map f (range_with_len 0 n)) k ≡ Some (f k)
range_within f n k short =
    let size : length (map f (range_with_len 0 n)) ≡ n = length-map-range_with_len f 0 n in
    let place : 0 + k ≡ k = omega arith in
    slice_get-get_or (map f (range_with_len 0 n)) k (f 0) (omega (arith, short, size))
    ∙ ap Some (get_or-map-range_with_len f 0 n k k (f 0) short place)

pub range_past : {X : Type 0} (f : ℕ → X) (n k : ℕ) → n ≤ k → slice_get (map f (range_with_len 0 n)) k ≡ None
range_past f n k past =
    let size : length (map f (range_with_len 0 n)) ≡ n = length-map-range_with_len f 0 n in
    slice_get_past (map f (range_with_len 0 n)) k (omega (arith, past, size))
