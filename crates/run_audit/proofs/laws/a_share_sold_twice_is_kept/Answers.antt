use Rattle.run_audit.proofs.SoldTwiceLaws.{share_sold_twice_kept}
use Rattle.run_audit.proofs.laws.a_share_sold_twice_is_kept.Goals as goal

pub returns : goal.returns
returns c = share_sold_twice_kept
