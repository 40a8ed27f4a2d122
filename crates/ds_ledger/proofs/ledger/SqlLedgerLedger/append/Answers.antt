use Rattle.sqlite.specs.Held.{state}
use Rattle.ds_ledger.proofs.LastingLaws.{all_last, may_find, recovers}
use Rattle.ds_ledger.proofs.ledger.SqlLedgerLedger.append.Goals as goal

pub returns-clause-lasting : goal.returns-clause-lasting
returns-clause-lasting g c clean =
    let kept = c.keep.ensures in
    all_last c.keep.result (state g.S.Store c.args.self.now.conn) (state g.S.Store c.keep.new.self.conn) c.args.self.now.end c.keep.new.self.end c.args.commands.now
    (λ db is_open left. g.met.S.Store.settled c.keep.new.self.conn.store db is_open left) kept.told clean (kept.open clean) kept.appended

pub returns-clause-crash : goal.returns-clause-crash
returns-clause-crash g c clean found left =
    may_find (state g.S.Store c.args.self.now.conn) (state g.S.Store c.keep.new.self.conn) c.args.self.now.end c.args.commands.now c.keep.ensures.crash clean found left

pub returns-clause-recovers : goal.returns-clause-recovers
returns-clause-recovers g c clean again kept =
    recovers (state g.S.Store c.args.self.now.conn) (state g.S.Store c.keep.new.self.conn) c.args.self.now.end c.args.commands.now c.keep.ensures.crash clean again kept
