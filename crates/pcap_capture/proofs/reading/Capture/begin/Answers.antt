use Rattle.std.proofs.Common.{[], refl}
use Rattle.pcap_capture.specs.Grammar.{capture, prepend}
use Rattle.pcap_capture.specs.declared.stage.Stage.TheVariants.{Opening}
use Rattle.pcap_capture.proofs.CutLaws.{capture_empty}
use Rattle.pcap_capture.proofs.HeadingLaws.{kept_waiting}
use Rattle.pcap_capture.proofs.reading.Capture.begin.Goals as goal

pub returns-clause-so_far : goal.returns-clause-so_far
returns-clause-so_far c before =
    rw c.new.ensures (kept_waiting Opening [] before (capture []) (prepend before (capture [])) capture_empty refl)
