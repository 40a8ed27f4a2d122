use Rattle.ds_ledger.proofs.laws.crash_leaves_last_commit.Goals as goal

pub returns : goal.returns
returns g c told db may = g.met.S.Store.settled c.args.ledger.now.conn.store db told.1 may
