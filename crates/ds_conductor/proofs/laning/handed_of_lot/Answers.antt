use Rattle.std.proofs.Common.{sym, subst}
use Rattle.ds_conditioner.specs.Handings.{IsPassedInPart}
use Rattle.ds_conductor.proofs.laning.handed_of_lot.Goals as goal

pub returns-in-Err-clause-passed : goal.returns-in-Err-clause-passed
returns-in-Err-clause-passed g c = record {
  records = c.pass_lot.ensures.records;
  stays = λ starved. absurd (let no = c.if-starved.false in cc);
  passed = λ well seen. subst (λ t. IsPassedInPart c.args.shift.now.port.now c.args.conditioner.now c.pass_lot.new.conditioner c.args.lot.frames t) (sym c.nothing-in-Err.ensures) (c.in-Err.ensures.passed seen);
}
