use Rattle.std.proofs.Common.{[], ap, refl}
use Rattle.capture_reader.specs.Formats.{CaptureState}
use Rattle.capture_reader.proofs.ReadingLaws.{begun}
use Rattle.capture_reader.proofs.reading.Progress.begin.Goals as goal

pub returns-clause-begun : goal.returns-clause-begun
returns-clause-begun c bytes =
    begun bytes _ (rw c.new.ensures (c.begin.ensures.so_far [])) (ap (λ (s : CaptureState). s.stage) c.begin.ensures.value) refl refl
