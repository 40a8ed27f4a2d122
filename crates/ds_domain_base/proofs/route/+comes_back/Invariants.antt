use Rattle.std.proofs.Common.{length}
use Rattle.ds_domain_base.proofs.route.+comes_back.Given as goal

abbrev pub decreases-comes_back : goal.decreases-comes_back
decreases-comes_back l = length l.legs.now
