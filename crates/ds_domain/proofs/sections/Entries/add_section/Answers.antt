use Rattle.std.proofs.lemmas.Result.{err_from_is_err_and}
use Rattle.toml.specs.View.{table_view}
use Rattle.ds_domain.proofs.TurnLemmas.{in_turn-taken, in_turn-refused, in_turn-done}
use Rattle.ds_domain.proofs.sections.Entries.add_section.Goals as goal

pub loop-table-preserved : goal.loop-table-preserved
loop-table-preserved g c =
    in_turn-taken (g.Self.Entries.with_entry c.args.self.now) (λ table. table_view table.now)
    c.loop-table.whole c.add.new.whole c.args.tables.now c.loop-table.table-index c.table-item.result _
    c.loop-table-test.true c.table-item.is c.in_ok-add.ensures.added c.loop-table.invariant

pub returns-in_err-add-clause-refused : goal.returns-in_err-add-clause-refused
returns-in_err-add-clause-refused g c =
    let p = err_from_is_err_and c.from_residual-in_err-add.result c.from_residual-in_err-add.ensures.1 in
    rw (p.1, p.2) (in_turn-refused (g.Self.Entries.with_entry c.args.self.now) (λ table. table_view table.now)
    c.loop-table.whole c.args.tables.now c.loop-table.table-index c.table-item.result _ c.in_err-add.field-0.0
    c.loop-table-test.true c.table-item.is c.loop-table.invariant c.in_err-add.ensures.refused)

pub returns-clause-added : goal.returns-clause-added
returns-clause-added g c =
    in_turn-done (g.Self.Entries.with_entry c.args.self.now) (λ table. table_view table.now)
    c.loop-table.whole c.args.tables.now c.loop-table.table-index _ c.loop-table-test.false c.loop-table.invariant
