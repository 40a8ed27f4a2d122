use Rattle.std.proofs.Common.{◌∙◌, arith, sym}
use Rattle.dsedge_serve.proofs.NameLemmas.{behind_name-first, behind_name-none}
use Rattle.dsedge_serve.proofs.running.behind_name.Goals as goal

pub returns-then-is_empty : goal.returns-then-is_empty
returns-then-is_empty c = behind_name-none c.args.line.items (grind (arith, sym c.is_empty.ensures ∙ c.if-is_empty.true))

pub returns : goal.returns
returns c =
    behind_name-first c.args.line.items _ c.remove-name.ensures.items (grind (arith, sym c.is_empty.ensures ∙ c.if-is_empty.false))
