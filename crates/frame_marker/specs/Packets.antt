-- What is known of a packet whose header was read.
use Rattle.std.specs.Prelude.{◌≡◌, ℕ, ◌≤◌, Bool, List, length, None}
use Rattle.af_marker.specs.Headers.{fault_of, is_verified}
use Rattle.pcap_capture.specs.declared.start.Family.{Family}
use Rattle.pcap_capture.specs.declared.start.Family.TheVariants.{Ipv4, Ipv6}

-- its header passes all tests, and this is whether no checksum is wrong
abbrev pub CanBeMarked : Family → Bool → List ℕ → Type 0
CanBeMarked Ipv4 verified packet = (fault_of packet ≡ None) × (verified ≡ is_verified packet)
CanBeMarked Ipv6 verified packet = 40 ≤ length packet
