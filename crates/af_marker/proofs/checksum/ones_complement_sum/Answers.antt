use Rattle.std.proofs.Common.{◌≡◌, ◌+◌, arith, ◌∙◌}
use Rattle.std.proofs.Math.Facts.{Fits-lt-pow}
use Rattle.af_marker.proofs.ChecksumLaws.{by_two_none, by_two_one, sum_of_words, total_by_two}
use Rattle.af_marker.proofs.checksum.ones_complement_sum.Goals as goal
use Rattle.af_marker.proofs.checksum.ones_complement_sum.Goals.{then-rest-ge2, else-rest-ge2}

pub returns : goal.returns
returns c =
    let bytes = c.args.bytes.now in
    let rest = c.loop-rest.rest.now in
    let all : c.if-rest-ge2.sum ≡ total_by_two bytes =
    elim c.if-rest-ge2.branch [
      | then-rest-ge2 w ↦
          let last = by_two_one rest c.loop-rest-test.false w.if-rest-ge2.true c.loop-rest.invariant.even in
          omega (arith, last, c.loop-rest.invariant.counted, w.read_u16.ensures, w.from-sum-then-rest-ge2.ensures, w.sum-is)
      | else-rest-ge2 w ↦
          let none = by_two_none rest w.if-rest-ge2.false c.loop-rest.invariant.even in
          omega (arith, none, c.loop-rest.invariant.counted, w.sum-is)
    ] in
    c.fold_carries.ensures ∙ sum_of_words bytes c.if-rest-ge2.sum (λ k. Fits-lt-pow (c.type_inv.bytes k)) all
