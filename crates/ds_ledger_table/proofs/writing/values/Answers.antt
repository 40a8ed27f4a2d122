use Rattle.std.proofs.Common.{◌<◌, ◌≢◌, length, arith, ◌∙◌, below_more, get_or-set_other, get_or-set_same, length-set}
use Rattle.ds_ledger_table.proofs.RowLemmas.{bound_is}
use Rattle.ds_ledger_table.proofs.writing.values.Goals as goal

pub loop-at-preserved : goal.loop-at-preserved
loop-at-preserved c =
    let own = c.loop-at.invariant in
    let within : c.loop-at.at < length c.loop-at.values = omega (arith, own.long) in
    record {
      long = length-set _ _ _ ∙ own.long;
      own = below_more _ _ (λ k low. let other : k ≢ c.loop-at.at = omega arith in rw get_or-set_other (own.own k low)) (rw get_or-set_same c.get.ensures);
    }

pub returns : goal.returns
returns c = bound_is _ _ c.loop-at.invariant.long (λ k low. c.loop-at.invariant.own k (omega (arith, c.loop-at-test.false))) c.requires
