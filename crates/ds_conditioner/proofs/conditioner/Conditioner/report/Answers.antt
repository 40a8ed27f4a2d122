use Rattle.std.proofs.Common.{false, ap, ◌∙◌}
use Rattle.ds_conditioner.specs.Conditionings.{see_at}
use Rattle.ds_conditioner.specs.Reports.{report_of}
use Rattle.ds_conditioner.proofs.ConditionLaws.{ended}
use Rattle.ds_conditioner.proofs.conditioner.Conditioner.report.Goals as goal

pub loop-preserved : goal.loop-preserved
loop-preserved c = record {
  bounded = c.let_go_first.ensures.bounded;
  none_left = c.let_go_first.ensures.waiting ∙ c.loop.invariant.none_left;
  handed = λ frames text was.
      let so_far = c.loop.invariant.handed frames text was in
      c.let_go_first.ensures.handed c.args.port.now false frames so_far.0 so_far.1;
}

pub returns-clause-told : goal.returns-clause-told
returns-clause-told c frames text was =
    let p = c.args.port.now in
    let so_far = c.loop.invariant.handed frames text was in
    let last = c.let_go_first.ensures.handed p false frames so_far.0 so_far.1 in
    let over = rw c.loop-test.false at c.let_go_first.ensures.one in
    let all = ended p frames last.0 c.let_go_first.new.self last.1 (c.let_go_first.ensures.waiting ∙ c.loop.invariant.none_left ∙ c.requires.none_left) over.1 in
    c.report.ensures.told (see_at p) frames all.coloured all.counted all.long all.tallied ∙ ap (report_of (see_at p) p.red frames) all.whole
