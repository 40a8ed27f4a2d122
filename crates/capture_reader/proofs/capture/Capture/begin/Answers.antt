use Rattle.std.proofs.Common.{[]}
use Rattle.capture_reader.specs.Formats.{Unopened, capture}
use Rattle.capture_reader.proofs.CaptureLaws.{kept_waiting}
use Rattle.capture_reader.proofs.FormatLaws.{capture_empty}
use Rattle.capture_reader.proofs.capture.Capture.begin.Goals as goal

pub returns-clause-so_far : goal.returns-clause-so_far
returns-clause-so_far c before = rw c.new.ensures (kept_waiting Unopened [] before (capture []) capture_empty)
