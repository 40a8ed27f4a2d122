use Rattle.moment_core.proofs.MeteringLaws.{moment_le-used}
use Rattle.meter_book.proofs.row.Arrival.row.Goals as goal

pub since-requires : goal.since-requires
since-requires c = rw (c.used_for-used.ensures) (moment_le-used c.newest.result c.args.self.moment)
