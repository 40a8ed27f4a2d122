use Rattle.envelope_core.proofs.Windows.{Keeps-filter}
use Rattle.envelope_core.proofs.laws.selections_keep.Goals as goal

pub returns : goal.returns
returns c = Keeps-filter
