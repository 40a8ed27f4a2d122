-- What the frames of a capture send can be sent, and judged.
use Rattle.std.proofs.Common.{◌≡◌, ◌<◌, ◌≤◌, ◌-◌, ◌^◌, ℕ, suc, Bool, true, false, cond, List, [], ◌∷◌, ◌++◌, length, take, max, Option, None, Some, refl, ap, ◌∙◌, arith, ◌&&◌, is_some, nat_le, position, slice_get, AllPairs, IsSome, All}
use Rattle.std.proofs.lemmas.Bool.Decides.{nat_tests}
use Rattle.std.proofs.lemmas.List.Elements.{All-cons, All-head, All-nil, All-tail, All-weaker}
use Rattle.std.proofs.lemmas.List.Kept.{AllPairs-cons}
use Rattle.std.proofs.lemmas.List.Quantifiers.{position-Some}
use Rattle.std.proofs.lemmas.Option.{slice_get-get_or}
use Rattle.af_marker.specs.declared.packet.Header.{Header}
use Rattle.pcap_capture.specs.Frames.{FrameValue, has_packet, link_in}
use Rattle.pcap_capture.specs.declared.heading.LinkType.{LinkType}
use Rattle.ds_domain_base.specs.declared.contract.Contract.{Contract}
use Rattle.ds_checker.specs.Acceptance.{Table}
use Rattle.meter_fabric_base.specs.Grounds.{contract_of, ground_of, most_flows}
use Rattle.meter_fabric_base.proofs.GroundLaws.{found_at}
use Rattle.flow_classifier.specs.Keys.{key_of}
use Rattle.ds_domain_base.specs.Versions.{has_ipv6}
use Rattle.frame_marker.specs.Frames.{header_in}
use Rattle.frame_marker.specs.Sights.{flow_of, heeded, sight_by, sight_for, sight_of, takes}
use Rattle.frame_marker.specs.declared.sight.Sight.{Sight}
use Rattle.frame_marker.specs.declared.sight.Sight.TheVariants.{Carried, Matched, Skipped, Unmatched}
use Rattle.ds_conductor_base.specs.Streams.{rise_from}
use Rattle.ds_conductor_base.specs.declared.sent.Sent.{Sent}
use Rattle.ds_conditioner.specs.Laws.{FramesCanBeSent}
use Rattle.ds_conditioner.specs.Sendings.{see}
use Rattle.ds_conditioner.specs.Sendings.{sent_by, sent_from, stamp_of}

-- ---- contracts that take frames are there

module _ (t : Table) (port : List ℕ) where
  flow_there : (header : Header) (flow : ℕ) → flow_of t.contracts port (key_of header) ≡ Some flow → IsSome (contract_of (ground_of t) flow)
  unfolding flow_of
  flow_there header flow found = by (take most_flows t.contracts) found (found_at t flow)
    where
      by : (contracts : List Contract) → position (takes port (key_of header)) contracts ≡ Some flow → contract_of (ground_of t) flow ≡ slice_get contracts flow
          → IsSome (contract_of (ground_of t) flow)
      by [] place at = absurd cc
      by (c ∷ contracts) place at =
          let short = (position-Some (takes port (key_of header)) (c ∷ contracts) flow c place).0 in
          ap is_some (at ∙ slice_get-get_or (c ∷ contracts) flow c short)

  -- what is seen of a frame is of a contract that is there, if it is of any
  abbrev pub IsKnown : Sight → Type 0
  IsKnown Carried = Unit {0}
  IsKnown Skipped = Unit {0}
  IsKnown Unmatched = Unit {0}
  IsKnown (Matched flow header) = IsSome (contract_of (ground_of t) flow)

  by_flow : (header : Header) (found : Option ℕ) → flow_of t.contracts port (key_of header) ≡ found → IsKnown (sight_for header found)
  by_flow header None none = tt
  by_flow header (Some flow) found = flow_there header flow found

  by_header : (found : Option Header) → IsKnown (sight_by t.contracts port found)
  by_header None = tt
  by_header (Some header) = by_flow header (flow_of t.contracts port (key_of header)) refl

  bytes_known : (link : LinkType) (bytes : List ℕ) → IsKnown (sight_of t.domain.version t.contracts port link bytes)
  unfolding sight_of
  bytes_known link bytes = by_header (heeded (has_ipv6 t.domain.version) (header_in link bytes))

  pub sight_known : (f : FrameValue) → IsKnown (see t port f)
  sight_known f = by (has_packet f.content)
    where
      by : (is : Bool) → IsKnown (cond is (sight_of t.domain.version t.contracts port (link_in f.content) f.bytes) Carried)
      by true = bytes_known (link_in f.content) f.bytes
      by false = tt

-- ---- the packets of frames

module _ (view : FrameValue → Sight) where
  rises : (moment number newest : ℕ) (frames : List FrameValue) → moment ≤ newest → rise_from moment (sent_from view number newest frames) ≡ true
  unfolding sent_from rise_from
  rises moment number newest [] low = refl
  rises moment number newest (f ∷ frames) low = by_sight (view f) (λ m below. rises m (suc number) (max newest (stamp_of f)) frames below)
    where
      rest : List Sent
      rest = sent_from view (suc number) (max newest (stamp_of f)) frames

      up : nat_le moment (max newest (stamp_of f)) ≡ true
      up = grind (arith, nat_tests)

      by_sight : (sight : Sight) → ((m : ℕ) → m ≤ max newest (stamp_of f) → rise_from m rest ≡ true)
          → rise_from moment (sent_by sight number (max newest (stamp_of f)) ++ rest) ≡ true
      by_sight Carried onward = onward moment (omega (arith, low))
      by_sight Skipped onward = onward moment (omega (arith, low))
      by_sight Unmatched onward = onward moment (omega (arith, low))
      by_sight (Matched flow header) onward = ap (λ b. b && rise_from (max newest (stamp_of f)) rest) up ∙ onward (max newest (stamp_of f)) (omega arith)

  numbered_from : (least number newest : ℕ) (frames : List FrameValue) → least ≤ number → All (λ s. least ≤ s.packet) (sent_from view number newest frames)
  unfolding sent_from
  numbered_from least number newest [] low = All-nil (λ s. least ≤ s.packet)
  numbered_from least number newest (f ∷ frames) low =
      by_sight (view f) (numbered_from least (suc number) (max newest (stamp_of f)) frames (omega (arith, low)))
    where
      rest : List Sent
      rest = sent_from view (suc number) (max newest (stamp_of f)) frames

      by_sight : (sight : Sight) → All (λ s. least ≤ s.packet) rest → All (λ s. least ≤ s.packet) (sent_by sight number (max newest (stamp_of f)) ++ rest)
      by_sight Carried onward = onward
      by_sight Skipped onward = onward
      by_sight Unmatched onward = onward
      by_sight (Matched flow header) onward =
          let first : Sent = record { flow = flow; packet = number; size = header.total; dscp = header.dscp; moment = max newest (stamp_of f) } in
          All-cons (λ s. least ≤ s.packet) first rest low onward

  numbers_rise : (number newest : ℕ) (frames : List FrameValue) → AllPairs (λ s r. s.packet < r.packet) (sent_from view number newest frames)
  unfolding sent_from
  numbers_rise number newest [] = λ i j d first below. absurd (omega (arith, below))
  numbers_rise number newest (f ∷ frames) = by_sight (view f) (numbers_rise (suc number) (max newest (stamp_of f)) frames)
    where
      rest : List Sent
      rest = sent_from view (suc number) (max newest (stamp_of f)) frames

      by_sight : (sight : Sight) → AllPairs (λ s r. s.packet < r.packet) rest → AllPairs (λ s r. s.packet < r.packet) (sent_by sight number (max newest (stamp_of f)) ++ rest)
      by_sight Carried onward = onward
      by_sight Skipped onward = onward
      by_sight Unmatched onward = onward
      by_sight (Matched flow header) onward =
          let first : Sent = record { flow = flow; packet = number; size = header.total; dscp = header.dscp; moment = max newest (stamp_of f) } in
          AllPairs-cons (λ s r. s.packet < r.packet) first rest
          (All-weaker (λ s. suc number ≤ s.packet) (λ s. number < s.packet) (λ s behind. omega (arith, behind)) rest
          (numbered_from (suc number) (suc number) (max newest (stamp_of f)) frames (omega arith))) onward

  before_end : (end number newest : ℕ) (frames : List FrameValue) → newest < end → All (λ f. stamp_of f < end) frames → All (λ s. s.moment < end) (sent_from view number newest frames)
  unfolding sent_from
  before_end end number newest [] short all = All-nil (λ s. s.moment < end)
  before_end end number newest (f ∷ frames) short all =
      by_sight (view f) (before_end end (suc number) (max newest (stamp_of f)) frames low (All-tail (λ f. stamp_of f < end) f frames all))
    where
      rest : List Sent
      rest = sent_from view (suc number) (max newest (stamp_of f)) frames

      low : max newest (stamp_of f) < end
      low = omega (arith, short, All-head (λ f. stamp_of f < end) f frames all)

      by_sight : (sight : Sight) → All (λ s. s.moment < end) rest → All (λ s. s.moment < end) (sent_by sight number (max newest (stamp_of f)) ++ rest)
      by_sight Carried onward = onward
      by_sight Skipped onward = onward
      by_sight Unmatched onward = onward
      by_sight (Matched flow header) onward =
          let first : Sent = record { flow = flow; packet = number; size = header.total; dscp = header.dscp; moment = max newest (stamp_of f) } in
          All-cons (λ s. s.moment < end) first rest low onward

  all_there : (t : Table) (port : List ℕ) (number newest : ℕ) (frames : List FrameValue) → ((f : FrameValue) → IsKnown t port (view f))
      → All (λ s. IsSome (contract_of (ground_of t) s.flow)) (sent_from view number newest frames)
  unfolding sent_from
  all_there t port number newest [] known = All-nil (λ s. IsSome (contract_of (ground_of t) s.flow))
  all_there t port number newest (f ∷ frames) known = by_sight (view f) (known f) (all_there t port (suc number) (max newest (stamp_of f)) frames known)
    where
      rest : List Sent
      rest = sent_from view (suc number) (max newest (stamp_of f)) frames

      by_sight : (sight : Sight) → IsKnown t port sight → All (λ s. IsSome (contract_of (ground_of t) s.flow)) rest
          → All (λ s. IsSome (contract_of (ground_of t) s.flow)) (sent_by sight number (max newest (stamp_of f)) ++ rest)
      by_sight Carried is onward = onward
      by_sight Skipped is onward = onward
      by_sight Unmatched is onward = onward
      by_sight (Matched flow header) is onward =
          let first : Sent = record { flow = flow; packet = number; size = header.total; dscp = header.dscp; moment = max newest (stamp_of f) } in
          All-cons (λ s. IsSome (contract_of (ground_of t) s.flow)) first rest is onward

  no_more : (number newest : ℕ) (frames : List FrameValue) → length (sent_from view number newest frames) ≤ length frames
  unfolding sent_from
  no_more number newest [] = omega arith
  no_more number newest (f ∷ frames) = by_sight (view f) (no_more (suc number) (max newest (stamp_of f)) frames)
    where
      rest : List Sent
      rest = sent_from view (suc number) (max newest (stamp_of f)) frames

      by_sight : (sight : Sight) → length rest ≤ length frames → length (sent_by sight number (max newest (stamp_of f)) ++ rest) ≤ suc (length frames)
      by_sight Carried onward = omega (arith, onward)
      by_sight Skipped onward = omega (arith, onward)
      by_sight Unmatched onward = omega (arith, onward)
      by_sight (Matched flow header) onward = omega (arith, onward)

stamp_early : (f : FrameValue) → stamp_of f < 2 ^ 63 - 2 ^ 40
unfolding stamp_of
stamp_early f = omega arith

all_early : (frames : List FrameValue) → All (λ f. stamp_of f < 2 ^ 63 - 2 ^ 40) frames
all_early [] = All-nil (λ f. stamp_of f < 2 ^ 63 - 2 ^ 40)
all_early (f ∷ frames) = All-cons (λ f. stamp_of f < 2 ^ 63 - 2 ^ 40) f frames (stamp_early f) (all_early frames)

pub frames_can_be_sent : FramesCanBeSent
frames_can_be_sent t port frames few =
    let view = see t port in
    record {
      rising = rises view 0 0 0 frames (omega arith);
      numbered = numbers_rise view 0 0 frames;
      known = all_there view t port 0 0 frames (sight_known t port);
      timed = before_end view (2 ^ 63 - 2 ^ 40) 0 0 frames (omega arith) (all_early frames);
      few = omega (arith, few, no_more view 0 0 frames);
    }
