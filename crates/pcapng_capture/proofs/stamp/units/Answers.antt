use Rattle.std.proofs.Common.{arith}
use Rattle.pcapng_capture.proofs.StampLaws.{ten_fits, two_fits}
use Rattle.pcapng_capture.proofs.stamp.units.Goals as goal

pub pow-requires : goal.pow-requires
pow-requires c = ten_fits c.from.result (omega arith)

pub pow-requires-else-resolution-lt128 : goal.pow-requires-else-resolution-lt128
pow-requires-else-resolution-lt128 c = two_fits c.from-else-resolution-lt128.result (omega arith)
