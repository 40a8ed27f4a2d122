use Rattle.std.proofs.Common.{vec_len}
use Rattle.meter_fabric.proofs.books.+audit.Given as goal

abbrev pub decreases-audit : goal.decreases-audit
decreases-audit g l = vec_len l.passes.now
