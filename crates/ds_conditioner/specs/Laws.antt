-- What the frames of a capture send.
use Rattle.std.specs.Prelude.{ℕ, ◌-◌, ◌<◌, ◌≤◌, ◌^◌, List, All, length}
use Rattle.pcap_capture.specs.Frames.{FrameValue}
use Rattle.pcap_capture.specs.Grammar as classic
use Rattle.capture_reader.specs.Formats.{capture}
use Rattle.ds_checker.specs.Acceptance.{IsAcceptable, Table}
use Rattle.ds_conductor_base.specs.declared.sent.Sent.{Sent}
use Rattle.ds_runs.specs.Behind.{AreSendable, IsBehind}
use Rattle.ds_runs.specs.Making.{run_behind}
use Rattle.ds_conditioner.specs.Sendings.{see}
use Rattle.ds_conditioner.specs.Sendings.{sent_of}

-- What frames send at a port can be sent, and judged, where they are no more than a book gives places.
abbrev pub FramesCanBeSent : Type 0
FramesCanBeSent = (t : Table) (port : List ℕ) (frames : List FrameValue) → length frames ≤ 2 ^ 44
    → AreSendable t (sent_of (see t port) frames)

-- The records of a classic capture are stamped before the last moments: seconds and fractions have 32 bits each. So each
-- is sent at its own stamp, or a later one's before it.
abbrev pub StampsAreEarly : Type 0
StampsAreEarly = (bytes : List ℕ)
    → All (λ b. b < 256) bytes → All (λ f. f.moment < 2 ^ 63 - 2 ^ 40) (classic.capture bytes).frames

-- what the frames of a capture send at a port
abbrev pub sent_in : Table → List ℕ → List ℕ → List Sent
sent_in t port bytes = sent_of (see t port) (capture bytes).frames

-- Behind what a capture sends at a port of an acceptable table stands a run, whose packets left their last meters with
-- the colours that they are marked with.
abbrev pub ARunIsBehindEachCapture : Type 0
ARunIsBehindEachCapture = (t : Table) (port bytes : List ℕ)
    → IsAcceptable t → length (capture bytes).frames ≤ 2 ^ 44
    → IsBehind t (sent_in t port bytes) (run_behind t (sent_in t port bytes))
