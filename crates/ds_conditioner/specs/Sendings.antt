-- Which packets the frames of a capture send, and when.
use Rattle.std.specs.Prelude.{◌≡◌, ℕ, suc, ◌+◌, List, [], ◌∷◌, ◌++◌, length, max, min, Option, None, Some, option_to_list, if◌then◌else◌}
use Rattle.pcap_capture.specs.Frames.{FrameValue}
use Rattle.frame_marker.specs.Sights.{sight_of_frame}
use Rattle.frame_marker.specs.declared.sight.Sight.{Sight}
use Rattle.frame_marker.specs.declared.sight.Sight.TheVariants.{Carried, Matched, Skipped, Unmatched}
use Rattle.ds_checker.specs.Acceptance.{Table}
use Rattle.ds_conductor_base.specs.Streams.{ComeFrom}
use Rattle.ds_conductor_base.specs.declared.sent.Sent.{Sent}
use Rattle.ds_conditioner.specs.Reports.{is_packet, is_skipped, is_unmatched, is_unverified, seen_as}
use Rattle.ds_conditioner.specs.declared.sending.Counts.{Counts}

-- what a frame is at a port of a table
abbrev pub see : Table → List ℕ → FrameValue → Sight
see t port f = sight_of_frame t.domain.version t.contracts port f

-- When a frame was captured, by its stamp; or, where that is later, the last moment of which no hop comes behind the last
-- moment that there is: packets are at most 2^40 nanoseconds under way.
unfoldable pub stamp_of : FrameValue → ℕ
stamp_of f = min f.moment 9223370937343148031

-- the packet of a frame, if a contract takes it
abbrev pub packet_of : Sight → ℕ → ℕ → Option Sent
packet_of Carried number moment = None
packet_of Skipped number moment = None
packet_of Unmatched number moment = None
packet_of (Matched flow header) number moment =
    Some (record { flow = flow; packet = number; size = header.total; dscp = header.dscp; moment = moment })

abbrev pub sent_by : Sight → ℕ → ℕ → List Sent
sent_by sight number moment = option_to_list (packet_of sight number moment)

-- The packets of the frames that contracts take, each with the number of its record, at the greatest stamp so far. The
-- first frame has this number, and the greatest stamp before it is this moment.
unfoldable pub sent_from : (FrameValue → Sight) → ℕ → ℕ → List FrameValue → List Sent
sent_from see number newest [] = []
sent_from see number newest (f ∷ frames) =
    sent_by (see f) number (max newest (stamp_of f)) ++ sent_from see (suc number) (max newest (stamp_of f)) frames

-- the packets that the frames of a capture send
abbrev pub sent_of : (FrameValue → Sight) → List FrameValue → List Sent
sent_of see frames = sent_from see 0 0 frames

-- what frames send comes to no stop before it is so long under way
abbrev pub AreAhead : Table → (FrameValue → Sight) → ℕ → Type 0
AreAhead t see delay = (f : FrameValue) (number moment : ℕ)
    → ComeFrom t (moment + delay) (sent_by (see f) number moment)

-- Frames are counted, by what they are at a port.
pub record AreCounted (see : FrameValue → Sight) (frames : List FrameValue) (c : Counts) : Type 0 where
  pub records : c.records ≡ length frames
  pub packets : c.frames ≡ seen_as see is_packet frames
  pub matched : c.matched ≡ length (sent_of see frames)
  pub unmatched : c.unmatched ≡ seen_as see is_unmatched frames
  pub skipped : c.skipped ≡ seen_as see is_skipped frames
  pub unverified : c.unverified ≡ seen_as see is_unverified frames

-- before the first frame
abbrev pub nothing_counted : Counts
nothing_counted = record { records = 0; frames = 0; unmatched = 0; skipped = 0; matched = 0; unverified = 0 }

-- one frame more, by what it is
abbrev pub counted_on : Counts → Sight → Counts
counted_on c sight = record {
  records = c.records + 1;
  frames = c.frames + (if is_packet sight then 1 else 0);
  unmatched = c.unmatched + (if is_unmatched sight then 1 else 0);
  skipped = c.skipped + (if is_skipped sight then 1 else 0);
  matched = c.matched + length (sent_by sight 0 0);
  unverified = c.unverified + (if is_unverified sight then 1 else 0);
}
