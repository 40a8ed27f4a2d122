-- What is told of a marked capture.
use Rattle.std.specs.Prelude.{ℕ, Bool, true, false, not, List, [], ◌∷◌, length, count_by, sum_by, if◌then◌else◌, None, Some}
use Rattle.moment_core.specs.declared.colour.Colour.{Colour}
use Rattle.moment_core.specs.Colours.{is_green, is_red, is_yellow}
use Rattle.pcap_capture.specs.Frames.{FrameValue}
use Rattle.frame_marker.specs.declared.sight.Sight.{Sight}
use Rattle.frame_marker.specs.declared.sight.Sight.TheVariants.{Carried, Matched, Skipped, Unmatched}
use Rattle.run_audit.specs.declared.verdict.Verdict.{Verdict}
use Rattle.ds_conductor_base.specs.declared.sent.Sent.{Sent}
use Rattle.ds_conditioner.specs.Texts.{is_dropped}
use Rattle.ds_conditioner.specs.declared.report.Report.{Report}
use Rattle.ds_conditioner.specs.declared.rule.RedRule.{RedRule}

-- whether a record holds a packet
abbrev pub is_packet : Sight → Bool
is_packet Carried = false
is_packet Skipped = true
is_packet Unmatched = true
is_packet (Matched flow header) = true

abbrev pub is_skipped : Sight → Bool
is_skipped Carried = false
is_skipped Skipped = true
is_skipped Unmatched = false
is_skipped (Matched flow header) = false

abbrev pub is_unmatched : Sight → Bool
is_unmatched Carried = false
is_unmatched Skipped = false
is_unmatched Unmatched = true
is_unmatched (Matched flow header) = false

-- a contract takes the frame, and the checksum of its header is not right
abbrev pub is_unverified : Sight → Bool
is_unverified Carried = false
is_unverified Skipped = false
is_unverified Unmatched = false
is_unverified (Matched flow header) = not header.verified

-- how many frames a test picks at the port
abbrev pub seen_as : (FrameValue → Sight) → (Sight → Bool) → List FrameValue → ℕ
seen_as see picked frames = count_by (λ f. picked (see f)) frames

-- how many packets, and how many bytes, left with a colour that a test picks
abbrev pub packets_as : (Colour → Bool) → List (Sent × Colour) → ℕ
packets_as picked coloured = count_by (λ it. picked it.1) coloured

abbrev pub bytes_as : (Colour → Bool) → List (Sent × Colour) → ℕ
bytes_as picked coloured = sum_by (λ it. if picked it.1 then it.0.size else 0) coloured

-- a report in which nothing was read
abbrev pub nothing_read : Report
nothing_read = record {
  records = 0;
  marked = 0;
  unmatched = 0;
  skipped = 0;
  unverified = 0;
  dropped = 0;
  packets = 0 ∷ 0 ∷ 0 ∷ [];
  bytes = 0 ∷ 0 ∷ 0 ∷ [];
  verdict = None;
}

-- the report of frames, and of the packets that they sent, with the colours that these left with
abbrev pub report_of : (FrameValue → Sight) → RedRule → List FrameValue → List (Sent × Colour) → Report
report_of see red frames coloured = record {
  records = seen_as see is_packet frames;
  marked = length coloured;
  unmatched = seen_as see is_unmatched frames;
  skipped = seen_as see is_skipped frames;
  unverified = seen_as see is_unverified frames;
  dropped = packets_as (is_dropped red) coloured;
  packets = packets_as is_green coloured ∷ packets_as is_yellow coloured ∷ packets_as is_red coloured ∷ [];
  bytes = bytes_as is_green coloured ∷ bytes_as is_yellow coloured ∷ bytes_as is_red coloured ∷ [];
  verdict = None;
}

-- a report with the verdict on what was sent
abbrev pub with_verdict : Verdict → Report → Report
with_verdict verdict report = record report { verdict = Some verdict }
