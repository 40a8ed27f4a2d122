-- A block without a packet.
use Rattle.std.specs.Prelude.{ℕ, List, []}
use Rattle.pcap_capture.specs.Frames.{FrameValue}
use Rattle.pcap_capture.specs.declared.content.Content.TheVariants.{Other}

-- a block that is carried over as it stands
abbrev pub carried : List ℕ → FrameValue
carried own = record { head = own; moment = 0; bytes = []; tail = []; content = Other }
