-- What becomes of frames that are handed out.
use Rattle.std.specs.Prelude.{List, ℕ, [], Some}
use Rattle.pcap_capture.specs.Frames.{FrameValue}
use Rattle.pcapng_capture.specs.Marks.{marked_text}
use Rattle.frame_marker.specs.Marks.{IsMarkOf, put_in}
use Rattle.ds_conditioner.specs.Texts.{plain_text}
use Rattle.ds_conditioner.specs.declared.fate.Fate.{Fate}
use Rattle.ds_conditioner.specs.declared.fate.Fate.TheVariants.{Kept, LeftOut, Marked}

-- the text of a frame's record, by what becomes of it
abbrev pub fate_text : FrameValue → Fate → List ℕ
fate_text f Kept = plain_text f
fate_text f LeftOut = []
fate_text f (Marked mark dscp) = marked_text f (put_in mark dscp f.bytes)

-- this can become of a frame: where it is marked, the mark is one of its own
abbrev pub IsFateOf : FrameValue → Fate → Type 0
IsFateOf f Kept = Unit {0}
IsFateOf f LeftOut = Unit {0}
IsFateOf f (Marked mark dscp) = IsMarkOf (Some mark) f.bytes
