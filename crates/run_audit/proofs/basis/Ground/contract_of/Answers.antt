use Rattle.std.proofs.Common.{◌∙◌, ap, sym, is_some}
use Rattle.run_audit.specs.Bases.{ground_along}
use Rattle.meter_fabric_base.specs.Grounds.{ground_of}
use Rattle.run_audit.proofs.BasisLaws.{counted_at, numbered_some, some_copied, table_counted, table_few}
use Rattle.run_audit.proofs.basis.Ground.contract_of.Goals as goal

pub returns-in-Table-clause-place : goal.returns-in-Table-clause-place
returns-in-Table-clause-place c =
    let t = c.in-Table.accepted.now in
    rw c.in-Table.is (c.contract_of.ensures ∙ counted_at (ground_of t) c.args.flow (table_counted t))

pub returns-in-Table-clause-numbered : goal.returns-in-Table-clause-numbered
returns-in-Table-clause-numbered c =
    let t = c.in-Table.accepted.now in
    numbered_some c.contract_of.result (ground_of t) c.args.flow (table_counted t) (table_few t)
    (sym (some_copied c.contract_of.result) ∙ ap is_some c.contract_of.ensures)

pub returns-in-Line-clause-value : goal.returns-in-Line-clause-value
returns-in-Line-clause-value c =
    let g = ground_along c.in-Line.timeline.now in
    rw c.in-Line.is (c.granted.ensures.value ∙ sym (counted_at g c.args.flow c.granted.ensures.counted))

pub returns-in-Line-clause-place : goal.returns-in-Line-clause-place
returns-in-Line-clause-place c = rw c.in-Line.is c.granted.ensures.value

pub returns-in-Line-clause-numbered : goal.returns-in-Line-clause-numbered
returns-in-Line-clause-numbered c =
    let g = ground_along c.in-Line.timeline.now in
    numbered_some c.granted.result g c.args.flow c.granted.ensures.counted c.granted.ensures.few
    (sym (some_copied c.granted.result) ∙ ap is_some (c.granted.ensures.value ∙ sym (counted_at g c.args.flow c.granted.ensures.counted)))
