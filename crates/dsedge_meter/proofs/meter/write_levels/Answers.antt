use Rattle.std.proofs.Common.{arith, ◌≡◌, ℕ, ◌+◌, ◌-◌, ◌≤◌, ◌<◌, ◌^◌, ◌∷◌, ◌++◌, codes, decimal, drop, length, set, append_assoc, ap, sym, ◌∙◌}
use Rattle.dsedge_meter.proofs.FigureLemmas.{figures_length}
use Rattle.std.proofs.lemmas.Fmt.{length-decimal-le}
use Rattle.std.proofs.lemmas.List.{drop-set, length-set}
use Rattle.dsedge_meter.proofs.meter.write_levels.Goals as goal

-- a number of 32 bits has ten digits at most
ten : (n m : ℕ) → n ≡ m → m < 2 ^ 32 → length (decimal n) ≤ 10
ten n m is small = length-decimal-le 10 n (omega arith) (omega (arith, is, small)) (omega (arith, is, small))

pub write_digits-begin-requires : goal.write_digits-begin-requires
write_digits-begin-requires c = (omega (arith, ten c.from.result c.args.second c.from.ensures (omega (arith, c.ranges.second))), omega (arith, c.fits-room))

pub overflow_sub-between : goal.overflow_sub-between
overflow_sub-between c =
    omega (arith, ten c.from.result c.args.second c.from.ensures (omega (arith, c.ranges.second)), c.write_digits-begin.ensures.start)

pub write_digits-requires : goal.write_digits-requires
write_digits-requires c =
    let first = ten c.from-2.result c.args.committed c.from-2.ensures (omega (arith, c.ranges.committed)) in
    let second = ten c.from.result c.args.second c.from.ensures (omega (arith, c.ranges.second)) in
    (omega (arith, first, second, c.write_digits-begin.ensures.start), omega (arith, length-set c.write_digits-begin.new.buf (c.write_digits-begin.result - 1) 32, c.write_digits-begin.auto.buf, c.fits-room, c.write_digits-begin.ensures.start))

pub returns-clause-start : goal.returns-clause-start
returns-clause-start c =
    let first = ap (λ n. length (decimal n)) c.from-2.ensures in
    let second = ap (λ n. length (decimal n)) c.from.ensures in
    let short = ten c.from.result c.args.second c.from.ensures (omega (arith, c.ranges.second)) in
    omega (arith, first, second, short, figures_length c.args.committed c.args.second, c.write_digits.ensures.start, c.write_digits-begin.ensures.start)

pub returns-clause-within : goal.returns-clause-within
returns-clause-within c =
    let first = ten c.from-2.result c.args.committed c.from-2.ensures (omega (arith, c.ranges.committed)) in
    let second = ten c.from.result c.args.second c.from.ensures (omega (arith, c.ranges.second)) in
    omega (arith, first, second, c.write_digits.ensures.start, c.write_digits-begin.ensures.start)

pub returns-clause-written : goal.returns-clause-written
returns-clause-written c =
    let first = c.args.committed in
    let second = c.args.second in
    let at = c.write_digits-begin.result in
    let buf = c.write_digits-begin.new.buf in
    let rest = drop 31 c.args.room.now in
    let short = ten c.from.result c.args.second c.from.ensures (omega (arith, c.ranges.second)) in
    let below : 1 ≤ at = omega (arith, short, c.write_digits-begin.ensures.start) in
    let inside : at - 1 < length buf = omega (arith, below, c.write_digits-begin.ensures.start, c.write_digits-begin.auto.buf, c.told-room) in
    let next : at - 1 + 1 ≡ at = omega (arith, below) in
    let later : drop at buf ≡ decimal second ++ rest = c.write_digits-begin.ensures.written ∙ ap (λ n. decimal n ++ rest) c.from.ensures in
    let spaced : drop (at - 1) (set buf (at - 1) 32) ≡ 32 ∷ (decimal second ++ rest) =
    drop-set buf (at - 1) 32 inside ∙ ap (λ i. 32 ∷ drop i buf) next ∙ ap (λ l. 32 ∷ l) later in
    c.write_digits.ensures.written ∙ ap (λ n. decimal n ++ drop (at - 1) (set buf (at - 1) 32)) c.from-2.ensures ∙ ap (λ l. decimal first ++ l) spaced
    ∙ sym (append_assoc (decimal first ++ codes " ") (decimal second) rest ∙ append_assoc (decimal first) (codes " ") (decimal second ++ rest))
