-- A piece that was put straight behind a text, which is the front of a buffer.
use Rattle.std.proofs.Common.{◌≡◌, ℕ, ◌+◌, ◌≤◌, List, ◌++◌, length, take, sym, ap, ◌∙◌}
use Rattle.std.specs.Vec.{with_items}
use Rattle.std.specs.declared.vec.Vec.{Vec}
use Rattle.std.proofs.Math.Seq.{take-append-add}
use Rattle.std.proofs.lemmas.List.{length-take-le, take-append-le, with_items_is}

-- a buffer that grew behind its text, and into which bytes were put behind the text
pub taken_behind : {Z : Type 0} (v : Vec ℕ Z) (old more whole buffer tail : List ℕ) (front taken : ℕ) → whole ≡ old ++ more → front ≤ length old → taken ≤ length buffer
    → length (take front whole ++ (buffer ++ tail)) ≡ v.len
    → take (front + taken) (with_items v (take front whole ++ (buffer ++ tail))).items ≡ take front old ++ take taken buffer
taken_behind v old more whole buffer tail front taken grown long within size =
    let text : take front whole ≡ take front old = ap (take front) grown ∙ take-append-le front old more long in
    let count : length (take front old) ≡ front = length-take-le front old long in
    ap (take (front + taken)) (with_items_is v (take front whole ++ (buffer ++ tail)) size ∙ ap (λ bytes. bytes ++ (buffer ++ tail)) text)
    ∙ ap (λ place. take (place + taken) (take front old ++ (buffer ++ tail))) (sym count)
    ∙ take-append-add (take front old) (buffer ++ tail) taken
    ∙ ap (λ bytes. take front old ++ bytes) (take-append-le taken buffer tail within)
