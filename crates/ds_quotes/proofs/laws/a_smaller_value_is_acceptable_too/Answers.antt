use Rattle.ds_quotes.proofs.LesserTables.{accepted-with-less}
use Rattle.ds_quotes.proofs.laws.a_smaller_value_is_acceptable_too.Goals as goal

pub returns : goal.returns
returns c = accepted-with-less
