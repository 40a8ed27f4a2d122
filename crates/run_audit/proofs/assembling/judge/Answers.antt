use Rattle.run_audit.specs.Bases.{basis_of}
use Rattle.run_audit.proofs.CountLaws.{run_counted, untold_counted}
use Rattle.run_audit.proofs.assembling.judge.Goals as goal

pub returns-then-rows_of-receipts_of-clause-run : goal.returns-then-rows_of-receipts_of-clause-run
returns-then-rows_of-receipts_of-clause-run c =
    run_counted (basis_of c.args.basis.now) c.args.journals.now c.args.trails.now c.rows_of.result c.receipts_of.result
    c.in_ok-sites.ensures.journals c.in_ok-judge_trails.ensures.sound c.rows_of.ensures c.receipts_of.ensures c.if-rows_of-receipts_of.true

pub returns-clause-refused : goal.returns-clause-refused
returns-clause-refused c = (
  c.in_ok-sites.ensures.journals,
  c.in_ok-judge_trails.ensures.sound,
  untold_counted (basis_of c.args.basis.now) c.args.journals.now c.args.trails.now c.rows_of.result c.receipts_of.result
      c.in_ok-sites.ensures.journals c.in_ok-judge_trails.ensures.sound c.rows_of.ensures c.receipts_of.ensures c.if-rows_of-receipts_of.false,
)
