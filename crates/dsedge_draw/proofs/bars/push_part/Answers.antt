use Rattle.std.proofs.Common.{append_assoc}
use Rattle.std.proofs.lemmas.Bool.{ne_eqb}
use Rattle.dsedge_draw.proofs.DrawLemmas.{part_there}
use Rattle.dsedge_draw.proofs.bars.push_part.Goals as goal

pub returns : goal.returns
returns c =
    rw (part_there c.args.colour.now c.args.width (ne_eqb c.args.width 0 c.if-width-eq0.false))
    (rw c.in_ok-extend_from_slice-5.ensures.items
    (rw c.in_ok-extend_from_slice-4.ensures.items
    (rw c.as_bytes.ensures.value
    (rw c.format.ensures.text
    (rw c.in_ok-extend_from_slice-3.ensures.items
    (rw c.in_ok-extend_from_slice-2.ensures.items
    (rw c.in_ok-extend_from_slice.ensures.items
    (simp append_assoc))))))))
