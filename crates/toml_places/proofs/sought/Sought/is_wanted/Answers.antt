use Rattle.toml_places.proofs.Walks.{list_any-now}
use Rattle.toml_places.proofs.sought.Sought.is_wanted.Goals as goal

pub returns-then-self : goal.returns-then-self
returns-then-self c =
    rw (← c.self.view_is, c.if-self.true, ← list_any-now c.args.name.now c.self.inside.names.now) c.is_among-is_named.ensures

pub returns-else-self : goal.returns-else-self
returns-else-self c =
    rw (← c.self.view_is, c.if-self.false, ← list_any-now c.args.name.now c.self.inside.names.now, c.is_among-is_named.ensures)
