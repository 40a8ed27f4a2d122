use Rattle.std.proofs.Common.{rules, arith, ap, length}
use Rattle.ds_domain_base.proofs.EntryLaws.{one_copied}
use Rattle.ds_domain_base.proofs.domain.copied.Goals as goal

pub loop-key-preserved : goal.loop-key-preserved
loop-key-preserved g c =
    one_copied g.met.K.Eq.laws _ _ _ _ _ c.in-Some.key.now c.in-Some.value.now c.len.ensures.unique c.loop-key.invariant (search rules) c.in_ok-insert.ensures.entries

pub loop-key-smaller : goal.loop-key-smaller
loop-key-smaller g c = omega (arith, ap length c.in-Some.ensures.steps)
