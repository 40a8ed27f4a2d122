use Rattle.std.proofs.Common.{sym, ◌∙◌}
use Rattle.ds_desk.proofs.TrailLaws.{older-leads, oldest-leads}
use Rattle.ds_desk.proofs.trail.reused.Goals as goal

pub brought_up-requires : goal.brought_up-requires
brought_up-requires c = (
  c.requires.0,
  older-leads c.args.older.now c.in-Some.older c.requires.0 c.in-Some.is c.requires.1,
  oldest-leads c.args.oldest.now c.args.older.now c.in-Some-taken.oldest c.in-Some.older (sym c.take-taken.ensures.value ∙ c.in-Some-taken.is) c.in-Some.is c.requires.2,
  c.requires.3,
)

pub returns-in-Some-taken-clause-table : goal.returns-in-Some-taken-clause-table
returns-in-Some-taken-clause-table c shown leads =
    c.brought_up.ensures.table shown (older-leads c.args.older.now c.in-Some.older shown c.in-Some.is leads)

pub returns-in-Some-taken-clause-flows : goal.returns-in-Some-taken-clause-flows
returns-in-Some-taken-clause-flows c shown leads =
    c.brought_up.ensures.flows shown (older-leads c.args.older.now c.in-Some.older shown c.in-Some.is leads)
