use Rattle.std.proofs.Common.{sym, arith}
use Rattle.ds_domain_text.proofs.ArrayLemmas.{two_numbers-other}
use Rattle.ds_domain_text.proofs.values.two_numbers.Goals as goal

pub returns-in_default : goal.returns-in_default
returns-in_default c = sym (two_numbers-other c.args.items.now (omega arith))

pub returns-in_default-2 : goal.returns-in_default-2
returns-in_default-2 c = sym (two_numbers-other c.args.items.now (omega arith))
