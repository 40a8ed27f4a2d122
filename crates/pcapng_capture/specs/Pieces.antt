-- What is known of the block at the front of bytes.
use Rattle.std.specs.Prelude.{◌≡◌, ℕ, List, Some}
use Rattle.pcap_capture.specs.Grammar.{number}
use Rattle.pcapng_capture.specs.Grammar.{order_of}
use Rattle.pcapng_capture.specs.Packets.{SectionValue}
use Rattle.pcapng_capture.specs.declared.place.Front.{Front}

-- the order of its numbers, and its type
abbrev pub IsFront : Front → SectionValue → List ℕ → Type 0
IsFront front section bytes =
    (order_of section bytes ≡ Some front.order) × (front.kind ≡ number front.order 4 bytes)
