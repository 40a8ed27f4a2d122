-- What stands in the room of a line that is written from its end.
use Rattle.std.proofs.Common.{◌≡◌, ℕ, ◌+◌, ◌-◌, ◌≤◌, suc, List, [], ◌∷◌, ◌++◌, arith, ap, codes, decimal, drop, length, length-append, append_assoc, refl, sym, take, take-take, take_at, drop-drop, ◌∙◌}
use Rattle.std.proofs.lemmas.List.{drop-append-le, drop_at, length-take-le}
use borrow.Rule.Slice.PartMut.{put_mid}
use Rattle.dsedge_meter.specs.Metered.{colour_word, figures_of, levels_line_of}
use Rattle.meter_book_base.specs.declared.any_meter.BucketLevels.{BucketLevels}
use Rattle.moment_core.specs.declared.colour.Colour.{Colour}
use Rattle.moment_core.specs.declared.colour.Colour.TheVariants.{Green, Yellow, Red}

-- what stands from a place on once eight bytes were put in front of another: the last of these, and what stood behind
pub in_front_of : (room word : List ℕ) (end size : ℕ) → length word ≡ 8 → size ≤ 8 → 8 ≤ end → end ≤ length room
    → drop (end - size) (put_mid (end - 8) (end - (end - 8)) room word) ≡ drop (8 - size) word ++ drop end room
in_front_of room word end size long short far within =
    let there : end - size ≡ end - 8 + (8 - size) = omega arith in
    let behind : end - 8 + (end - (end - 8)) ≡ end = omega arith in
    let cut : drop (end - 8) (put_mid (end - 8) (end - (end - 8)) room word) ≡ word ++ drop (end - (end - 8)) (drop (end - 8) room) =
    drop_at (take (end - 8) room) _ (end - 8) (length-take-le (end - 8) room (omega arith)) in
    ap (λ n. drop n (put_mid (end - 8) (end - (end - 8)) room word)) there ∙ sym (drop-drop (8 - size) (end - 8) _) ∙ ap (drop (8 - size)) cut
    ∙ drop-append-le (8 - size) word _ (omega (arith, long))
    ∙ ap (λ l. drop (8 - size) word ++ l) (drop-drop (end - (end - 8)) (end - 8) room ∙ ap (λ n. drop n room) behind)

take_behind : (old more : List ℕ) (size : ℕ) → take (length old + size) (old ++ more) ≡ old ++ take size more
take_behind [] more size = let on : 0 + size ≡ size = omega arith in ap (λ n. take n more) on
take_behind (o ∷ old) more size =
    let on : length (o ∷ old) + size ≡ suc (length old + size) = omega arith in
    ap (λ n. take n (o ∷ (old ++ more))) on ∙ ap (λ l. o ∷ l) (take_behind old more size)

-- as many bytes are copied for each line, and those behind it are cut off
pub line_left : (old room line rest : List ℕ) (begin end : ℕ) → drop begin room ≡ line ++ rest → length line ≤ 32
    → end ≡ length old + length line → take end (old ++ take (begin + 32 - begin) (drop begin room)) ≡ old ++ line
line_left old room line rest begin end is short e =
    let within : length line ≤ begin + 32 - begin = omega (arith, short) in
    ap (λ n. take n (old ++ take (begin + 32 - begin) (drop begin room))) e ∙ take_behind old _ (length line)
    ∙ ap (λ l. old ++ l) (take-take (length line) (begin + 32 - begin) (drop begin room) within ∙ ap (take (length line)) is ∙ take_at line rest (length line) refl)

joined : (word committed second rest : List ℕ)
    → word ++ ((committed ++ codes " " ++ second) ++ (10 ∷ rest)) ≡ (word ++ committed ++ codes " " ++ second ++ codes "\n") ++ rest
joined word committed second rest = simp append_assoc

-- the parts of a line with levels, one behind the other
pub line_of_parts : (left : Colour) (l : BucketLevels) (room figured named : List ℕ) (begin figures : ℕ)
    → drop 31 room ≡ 10 ∷ drop 32 room → drop figures figured ≡ figures_of l.committed l.second ++ drop 31 room
    → drop begin named ≡ colour_word left ++ drop figures figured → drop begin named ≡ levels_line_of left l ++ drop 32 room
line_of_parts left l room figured named begin figures end second first =
    first ∙ ap (λ t. colour_word left ++ t) (second ∙ ap (λ t. figures_of l.committed l.second ++ t) end)
    ∙ joined (colour_word left) (decimal l.committed) (decimal l.second) (drop 32 room)

five : (word committed space second end : List ℕ) → length end ≡ 1
    → length (word ++ committed ++ space ++ second ++ end) ≡ length word + length (committed ++ space ++ second) + 1
five word committed space second end one = simp length-append (omega (arith, one))

three : (committed space second : List ℕ) → length space ≡ 1 → length (committed ++ space ++ second) ≡ length committed + 1 + length second
three committed space second one = simp length-append (omega (arith, one))

pub figures_length : (committed second : ℕ)
    → length (figures_of committed second) ≡ length (decimal committed) + 1 + length (decimal second)
figures_length committed second = three (decimal committed) (codes " ") (decimal second) refl

pub word_length : (left : Colour) → length (colour_word left) ≤ 8
word_length Green = omega arith
word_length Yellow = omega arith
word_length Red = omega arith

pub line_length : (left : Colour) (l : BucketLevels) (begin figures : ℕ) → begin + length (colour_word left) ≡ figures
    → figures + length (figures_of l.committed l.second) ≡ 31 → begin + length (levels_line_of left l) ≡ 32
line_length left l begin figures first second =
    let all = five (colour_word left) (decimal l.committed) (codes " ") (decimal l.second) (codes "\n") refl in
    omega (arith, all, first, second)
