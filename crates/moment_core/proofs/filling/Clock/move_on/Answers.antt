use Rattle.moment_core.proofs.MeteringLaws.{newest_le-used}
use Rattle.moment_core.proofs.filling.Clock.move_on.Goals as goal

pub since-gap-requires : goal.since-gap-requires
since-gap-requires c = rw c.used_for-used.ensures (newest_le-used c.args.self.now.newest c.args.arrival)
