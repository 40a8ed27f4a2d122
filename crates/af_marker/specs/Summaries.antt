-- What is kept of a packet's header.
use Rattle.std.specs.Prelude.{true}
use Rattle.af_marker.specs.declared.packet.Header.{Header}
use Rattle.af_marker.specs.declared.packet.Header.TheVariants.{V4, V6}
use Rattle.af_marker.specs.declared.packet.Summary.{Summary}

-- the size, the code point, and whether no checksum is wrong: IPv6 has none in its header (RFC 8200 section 3)
abbrev pub summary_of : Header → Summary
summary_of (V4 h) = record { total = h.total; dscp = h.dscp; verified = h.verified }
summary_of (V6 h) = record { total = h.total; dscp = h.dscp; verified = true }
