use Rattle.std.proofs.Common.{arith, ◌∙◌}
use Rattle.sqlite.specs.Held.{state}
use Rattle.sqlite.specs.State.{HasCleanDisk}
use Rattle.ds_ledger_table.proofs.MakingLemmas.{defines}
use Rattle.ds_ledger_table.proofs.making.define.Goals as goal

pub returns-clause-made : goal.returns-clause-made
returns-clause-made g c clean inside =
    let a = state g.S.Store c.args.transaction.now.conn.now in
    let b = state g.S.Store c.execute.new.self.conn.now in
    let d = state g.S.Store c.execute-2.new.self.conn.now in
    let e = state g.S.Store c.execute-3.new.self.conn.now in
    let f = state g.S.Store c.execute-4.new.self.conn.now in
    let cleaner : HasCleanDisk e = omega (arith, c.execute-4.ensures.survives.clean) in
    let cleanest : HasCleanDisk d = omega (arith, c.execute-3.ensures.survives.clean) in
    let cleaned : HasCleanDisk b = omega (arith, c.execute-2.ensures.survives.clean) in
    let one = c.in_ok-execute.ensures.runs cleaned inside in
    let two = c.in_ok-execute-2.ensures.runs cleanest one.1.mode in
    let three = c.in_ok-execute-3.ensures.runs cleaner two.1.mode in
    let four = c.in_ok-execute-4.ensures.runs clean three.1.mode in
    record {
      was_open = one.1.was_open;
      committed = four.1.committed_is ∙ three.1.committed_is ∙ two.1.committed_is ∙ one.1.committed_is;
      mode = four.1.mode;
      made = λ blank. defines a b d e f blank _ _ _ _ one.0 two.0 three.0 four.0;
    }
