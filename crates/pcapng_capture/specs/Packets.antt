-- Blocks that hold a packet.
use Rattle.std.specs.Prelude.{ℕ, ◌+◌, ◌-◌, ◌*◌, max, min, nat_eq, nat_lt, if◌then◌else◌, List, length, drop, slice_get}
use Rattle.std.specs.Prelude.{Option, None, Some, Result, Ok, Err}
use Rattle.pcap_capture.specs.Grammar.{number}
use Rattle.pcap_capture.specs.declared.heading.Endianness.{Endianness}
use Rattle.pcap_capture.specs.Frames.{FrameValue, frame_at}
use Rattle.pcapng_capture.specs.Stamps.{moment_of}
use Rattle.pcap_capture.specs.declared.fault.PcapFault.{PcapFault}
use Rattle.pcap_capture.specs.declared.fault.PcapFault.TheVariants.{BadLength, UnknownInterface}
use Rattle.pcapng_capture.specs.declared.interface.Interface.{Interface}
use Rattle.pcap_capture.specs.declared.content.Content.TheVariants.{Block}

-- What was read so far: the order of the section's numbers, once there was a section header; the section's interfaces;
-- and the greatest moment of a packet in any section.
pub record SectionValue : Type 0 where
  pub order : Option Endianness
  pub interfaces : List Interface
  pub newest : ℕ

-- a block, and what was read so far with it
pub record Step : Type 0 where
  pub section : SectionValue
  pub block : FrameValue

-- the number of the interface of a block with a stamp: the old packet block has 16 bits for it
abbrev pub interface_number : Endianness → ℕ → List ℕ → ℕ
interface_number order kind own = if nat_eq kind 2 then number order 2 (drop 8 own) else number order 4 (drop 8 own)

-- how many bytes of its packet a block with a stamp holds
abbrev pub captured : Endianness → List ℕ → ℕ
captured order own = number order 4 (drop 20 own)

-- its stamp: the higher 32 bits stand first, in either order
abbrev pub stamp : Endianness → List ℕ → ℕ
stamp order own = number order 4 (drop 12 own) * 4294967296 + number order 4 (drop 16 own)

-- a packet of this moment, and the greatest moment with it
abbrev pub stamped_at : SectionValue → Endianness → List ℕ → Interface → ℕ → Step
stamped_at section order own interface moment = record {
  section = record section { newest = max section.newest moment };
  block = frame_at own (record {
    moment = moment;
    front = 28;
    size = captured order own;
    content = Block interface.link order;
  });
}

abbrev pub stamped_by : SectionValue → Endianness → List ℕ → ℕ → Option Interface → Result Step PcapFault
stamped_by section order own number None = Err (UnknownInterface number)
stamped_by section order own number (Some interface) =
    Ok (stamped_at section order own interface (moment_of interface (stamp order own)))

-- A block with a stamp and a packet of the interface of this number (section 4.3; appendix A for the old packet block).
abbrev pub stamped : SectionValue → Endianness → List ℕ → ℕ → Result Step PcapFault
stamped section order own number =
    if nat_lt (length own) (32 + captured order own) then Err (BadLength (length own))
    else stamped_by section order own number (slice_get section.interfaces number)

-- How many bytes a simple packet block holds of a packet: as many as the packet has, but no more than the interface
-- keeps, unless that is 0, and than there are between its first twelve bytes and its last four.
abbrev pub kept : ℕ → ℕ → ℕ → ℕ
kept snap original room = min (if nat_eq snap 0 then original else min original snap) room

abbrev pub simple_by : SectionValue → Endianness → List ℕ → Option Interface → Result Step PcapFault
simple_by section order own None = Err (UnknownInterface 0)
simple_by section order own (Some interface) = Ok (record {
  section = section;
  block = frame_at own (record {
    moment = section.newest;
    front = 12;
    size = kept interface.snap (number order 4 (drop 8 own)) (length own - 16);
    content = Block interface.link order;
  });
})

-- A block with a packet of interface 0 and no stamp (section 4.4): its moment is the greatest so far.
abbrev pub simple : SectionValue → Endianness → List ℕ → Result Step PcapFault
simple section order own = simple_by section order own (slice_get section.interfaces 0)
