use Rattle.envelope_core.proofs.Windows.{Keeps-part}
use Rattle.envelope_core.proofs.laws.parts_keep.Goals as goal

pub returns : goal.returns
returns c = Keeps-part
