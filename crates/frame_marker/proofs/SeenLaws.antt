-- What is known of a frame by its mark.
use Rattle.std.proofs.Common.{◌≡◌, ℕ, ◌-◌, ◌≤◌, true, List, ◌++◌, length, take, drop, take-append-drop, length-drop, Option, None, Some, Result, Ok, Err, refl, subst, sym, ap, ◌∙◌, arith}
use Rattle.std.proofs.lemmas.Bool.Decides.{nat_tests}
use Rattle.std.proofs.lemmas.List.{append-nil, drop_all, take_all}
use borrow.Rule.Slice.PartMut.{put_mid}
use Rattle.af_marker.specs.Headers.{fault_of, header_of}
use Rattle.af_marker.specs.Ipv6Headers.{ipv6_header_of}
use Rattle.af_marker.specs.declared.ipv4.HeaderFault.{HeaderFault}
use Rattle.af_marker.specs.declared.ipv4.Ipv4Header.{Ipv4Header}
use Rattle.af_marker.specs.declared.ipv6.Ipv6Header.{Ipv6Header}
use Rattle.af_marker.specs.declared.packet.Header.{Header}
use Rattle.af_marker.proofs.HeaderLaws.{passed, verified_of}
use Rattle.af_marker.proofs.Ipv6Laws.{passed as ipv6_passed, whole as ipv6_whole}
use Rattle.pcap_capture.specs.Packets.{begins_at, packet_start}
use Rattle.pcap_capture.specs.declared.heading.LinkType.{LinkType}
use Rattle.pcap_capture.specs.declared.start.Family.{Family}
use Rattle.pcap_capture.specs.declared.start.Family.TheVariants.{Ipv4, Ipv6}
use Rattle.pcap_capture.specs.declared.start.PacketStart.{PacketStart}
use Rattle.frame_marker.specs.Frames.{as_ipv4, as_ipv6, marked_behind, marked_by, marked_frame, read_header}
use Rattle.frame_marker.specs.Marks.{IsMarkOf, mark_behind, mark_in, mark_of, put_in}
use Rattle.frame_marker.specs.Packets.{CanBeMarked}
use Rattle.frame_marker.specs.declared.mark.Mark.{Mark}

-- there is a packet whose header can be read, and its checksum is as the mark says
pub record IsSeen (m : Mark) (bytes : List ℕ) : Type 0 where
  pub within : m.start ≤ length bytes
  pub can : CanBeMarked m.family m.verified (drop m.start bytes)

some_bytes : (bytes : List ℕ) → fault_of bytes ≡ None → 1 ≤ length bytes
unfolding fault_of
some_bytes bytes h = grind (arith, nat_tests)

seen_ipv4 : (start : ℕ) (m : Mark) (bytes : List ℕ) (read : Result Ipv4Header HeaderFault) → read ≡ header_of (drop start bytes)
    → Some m ≡ mark_of (begins_at Ipv4 start) (as_ipv4 read) → IsSeen m bytes
seen_ipv4 start m bytes (Ok h) is e =
    let whole = passed (drop start bytes) h is in
    let own : Mark = record { start = start; family = Ipv4; verified = h.verified } in
    let same : own ≡ m = cc in
    subst (λ (k : Mark). IsSeen k bytes) same (record {
      within = omega (arith, some_bytes (drop start bytes) whole, length-drop start bytes);
      can = (whole, verified_of (drop start bytes) h is);
    })
seen_ipv4 start m bytes (Err fault) is e = cc

seen_ipv6 : (start : ℕ) (m : Mark) (bytes : List ℕ) (read : Result Ipv6Header HeaderFault) → read ≡ ipv6_header_of (drop start bytes)
    → Some m ≡ mark_of (begins_at Ipv6 start) (as_ipv6 read) → IsSeen m bytes
seen_ipv6 start m bytes (Ok h) is e =
    let long = ipv6_whole (drop start bytes) (ipv6_passed (drop start bytes) h is) in
    let own : Mark = record { start = start; family = Ipv6; verified = true } in
    let same : own ≡ m = cc in
    subst (λ (k : Mark). IsSeen k bytes) same (record { within = omega (arith, long, length-drop start bytes); can = long })
seen_ipv6 start m bytes (Err fault) is e = cc

seen_behind : (p : Option PacketStart) (m : Mark) (bytes : List ℕ) → Some m ≡ mark_behind p bytes → IsSeen m bytes
seen_behind None m bytes e = cc
seen_behind (Some p) m bytes e = by p.family refl
  where
    by : (family : Family) → p.family ≡ family → IsSeen m bytes
    by Ipv4 is =
        seen_ipv4 p.start m bytes (header_of (drop p.start bytes)) refl (e ∙ ap (λ f. mark_of (begins_at f p.start) (read_header f (drop p.start bytes))) is)
    by Ipv6 is =
        seen_ipv6 p.start m bytes (ipv6_header_of (drop p.start bytes)) refl (e ∙ ap (λ f. mark_of (begins_at f p.start) (read_header f (drop p.start bytes))) is)

-- a mark says what is so
pub is_seen : (mark : Option Mark) (m : Mark) (bytes : List ℕ) → mark ≡ Some m → IsMarkOf mark bytes → IsSeen m bytes
unfolding mark_in
is_seen mark m bytes given (link, is) = seen_behind (packet_start link bytes) m bytes (sym given ∙ is)

-- a frame marked where its mark says, if it has one
abbrev pub marked_at : Option Mark → ℕ → List ℕ → List ℕ
marked_at None dscp bytes = bytes
marked_at (Some m) dscp bytes = put_in m dscp bytes

framed_by : (p : PacketStart) (dscp : ℕ) (bytes : List ℕ) (read : Result Header HeaderFault)
    → take p.start bytes ++ marked_by p.family read dscp (drop p.start bytes) ≡ marked_at (mark_of p read) dscp bytes
framed_by p dscp bytes (Ok h) = refl
framed_by p dscp bytes (Err fault) = take-append-drop p.start bytes

framed_behind : (p : Option PacketStart) (dscp : ℕ) (bytes : List ℕ) → marked_behind p dscp bytes ≡ marked_at (mark_behind p bytes) dscp bytes
framed_behind None dscp bytes = refl
framed_behind (Some p) dscp bytes = framed_by p dscp bytes (read_header p.family (drop p.start bytes))

-- and that is the marked frame
pub is_framed : (link : LinkType) (mark : Option Mark) (dscp : ℕ) (bytes : List ℕ) → mark ≡ mark_in link bytes → marked_at mark dscp bytes ≡ marked_frame link dscp bytes
unfolding mark_in marked_frame
is_framed link mark dscp bytes e =
    ap (λ (m : Option Mark). marked_at m dscp bytes) e ∙ sym (framed_behind (packet_start link bytes) dscp bytes)

-- a slice whose back is written
pub put_back : (start : ℕ) (bytes back : List ℕ) → put_mid start (length bytes - start) bytes back ≡ take start bytes ++ back
put_back start bytes back =
    rw (drop_all (length bytes - start) (drop start bytes) (omega (arith, length-drop start bytes)), append-nil) refl

pub whole_back : (start : ℕ) (bytes : List ℕ) → take (length bytes - start) (drop start bytes) ≡ drop start bytes
whole_back start bytes = take_all (length bytes - start) (drop start bytes) (omega (arith, length-drop start bytes))
