use Rattle.std.proofs.Common.{Ok, sym, ap, arith, ◌∙◌}
use Rattle.ds_runs.proofs.ConductLaws.{conducted_more, conducted_refused, conducted_whole}
use Rattle.ds_runs.proofs.conducting.conduct.Goals as goal

pub returns-in-Err-clause-refused : goal.returns-in-Err-clause-refused
returns-in-Err-clause-refused c =
    conducted_refused c.args.accepted.now c.loop-index.conductor.stage c.loop-index.index c.index-steps-index.result c.args.steps.now c.in-Err.fault c.at.result
    c.loop-index-test.true c.index-steps-index.is c.loop-index.invariant.value c.at.ensures (rw c.loop-index.invariant.table at c.in-Err.ensures.refused)

pub loop-index-preserved : goal.loop-index-preserved
loop-index-preserved c =
    let done = rw c.loop-index.invariant.table at c.in_default.ensures.done in
    record {
      table = c.step.ensures.table ∙ c.loop-index.invariant.table;
      value = sym (conducted_more c.args.accepted.now c.loop-index.conductor.stage c.step.new.self.stage c.loop-index.index c.index-steps-index.result c.args.steps.now
          c.loop-index-test.true c.index-steps-index.is done) ∙ c.loop-index.invariant.value;
    }

pub returns-clause-run : goal.returns-clause-run
returns-clause-run c =
    conducted_whole c.args.accepted.now c.loop-index.conductor.stage c.loop-index.index c.args.steps.now (omega arith) c.loop-index.invariant.value
    ∙ ap (λ (made : _). Ok made.run) (sym c.in_ok-finish.ensures)
