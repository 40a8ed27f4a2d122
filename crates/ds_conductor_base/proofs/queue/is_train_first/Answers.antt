use Rattle.std.proofs.Common.{◌∙◌, ap, length, sym, is_lt}
use Rattle.ds_conductor_base.proofs.RunLaws.{filled, first_of_both, first_of_rows, first_of_run, unfilled}
use Rattle.ds_conductor_base.proofs.queue.is_train_first.Goals as goal

pub returns-in_default : goal.returns-in_default
returns-in_default c =
    let none = ap length c.in_default.ensures in
    ((λ empty. none), (λ r is. first_of_run c.args.trains.now.rows c.args.run.now none c.requires r is))

pub returns-in-Some-last : goal.returns-in-Some-last
returns-in-Some-last c =
    first_of_both c.args.trains.now.rows c.args.run.now c.in-Some.top.now c.in-Some-last.last.now c.in-Some.ensures
    (filled (length c.args.run.now) (sym c.in-Some-last.ensures.item.0)) c.in-Some-last.ensures.item.1 c.requires
    c.is_lt.result (c.is_lt.ensures ∙ ap is_lt c.cmp.ensures)

pub returns-in-None : goal.returns-in-None
returns-in-None c = (
  c.in-Some.ensures.there,
  λ r first. first_of_rows c.args.trains.now.rows c.args.run.now (unfilled (length c.args.run.now) (sym c.in-None.ensures.item.0)) r first,
)
