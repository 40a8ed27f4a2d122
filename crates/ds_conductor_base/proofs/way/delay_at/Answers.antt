use Rattle.std.proofs.Common.{sym, ◌∙◌}
use Rattle.std.proofs.lemmas.Slice.Eq.{bytes_eq-Decides}
use Rattle.ds_conductor_base.proofs.way.delay_at.Goals as goal

pub returns-then-eq-clause-greatest : goal.returns-then-eq-clause-greatest
returns-then-eq-clause-greatest c d flow delay is low near =
    let named = bytes_eq-Decides c.args.port c.args.contract.now.port in
    c.first_delay.ensures.greatest d flow delay is low (near (sym (named.0 (sym c.eq.ensures ∙ c.if-eq.true))))
