use Rattle.std.proofs.Common.{arith}
use Rattle.moment_core.proofs.MeteringLaws.{newest_le-used}
use Rattle.ds_runs.proofs.watch.Watch.note.Goals as goal

pub pour-requires : goal.pour-requires
pour-requires c = omega (arith, newest_le-used c.newest.result c.args.packet.now.moment, c.newest.ensures, c.used_for-moment.ensures)
