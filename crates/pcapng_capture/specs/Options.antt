-- The options of a block (section 3.5): each has a code and a length of two bytes each, and a value that is filled up
-- to a multiple of four bytes.
use Rattle.std.specs.Prelude.{ℕ, zero, suc, ◌+◌, ◌*◌, ◌/◌, ◌^◌, ◌-◌, Bool, nat_eq, nat_lt, ◌&&◌, if◌then◌else◌}
use Rattle.std.specs.Prelude.{List, [], ◌++◌, length, take, drop, slice_index, Option, None, Some}
use Rattle.pcap_capture.specs.Grammar.{link_numbered, number}
use Rattle.pcap_capture.specs.declared.heading.Endianness.{Endianness}
use Rattle.pcapng_capture.specs.declared.interface.Interface.{Interface}
use Rattle.pcapng_capture.specs.declared.interface.Offset.{Offset}
use Rattle.pcapng_capture.specs.declared.interface.Offset.TheVariants.{Ahead, Behind}

-- a number of bytes, filled up to a multiple of four
unfoldable pub padded : ℕ → ℕ
padded size = (size + 3) / 4 * 4

-- the code of the option at the front, and how many bytes its value has
abbrev pub code_at : Endianness → List ℕ → ℕ
code_at order bytes = number order 2 bytes

abbrev pub value_size : Endianness → List ℕ → ℕ
value_size order bytes = number order 2 (drop 2 bytes)

-- How many bytes the option at the front has: none where the options end, by code 0 (opt_endofopt), or since too few
-- bytes are left.
unfoldable pub option_size : Endianness → List ℕ → Option ℕ
option_size order bytes =
    if nat_lt (length bytes) 4 then None
    else if nat_eq (code_at order bytes) 0 then None
    else if nat_lt (length bytes) (4 + padded (value_size order bytes)) then None
    else Some (4 + padded (value_size order bytes))

-- whether the option at the front has this code, and a value of so many bytes
abbrev pub is_option : Endianness → ℕ → ℕ → List ℕ → Bool
is_option order code size bytes = nat_eq (code_at order bytes) code && nat_eq (value_size order bytes) size

-- the option that is looked for: at the front, or behind that
abbrev pub option_from : (List ℕ → Option (List ℕ)) → Endianness → ℕ → ℕ → List ℕ → Option ℕ → Option (List ℕ)
option_from look order code size bytes None = None
option_from look order code size bytes (Some whole) =
    if is_option order code size bytes then Some (take size (drop 4 bytes)) else look (drop whole bytes)

-- among at most so many options
abbrev pub option_within : ℕ → Endianness → ℕ → ℕ → List ℕ → Option (List ℕ)
option_within zero order code size bytes = None
option_within (suc most) order code size bytes =
    option_from (option_within most order code size) order code size bytes (option_size order bytes)

-- the value of the first option that has this code and a value of so many bytes: there are fewer options than bytes
unfoldable pub option_of : Endianness → ℕ → ℕ → List ℕ → Option (List ℕ)
option_of order code size bytes = option_within (length bytes) order code size bytes

-- the options behind the first, and that one unless it is a hash (code 3)
abbrev pub hashless_from : (List ℕ → List ℕ) → Endianness → List ℕ → Option ℕ → List ℕ
hashless_from leave order bytes None = bytes
hashless_from leave order bytes (Some whole) =
    (if nat_eq (code_at order bytes) 3 then [] else take whole bytes) ++ leave (drop whole bytes)

-- among at most so many options
abbrev pub hashless_within : ℕ → Endianness → List ℕ → List ℕ
hashless_within zero order bytes = bytes
hashless_within (suc most) order bytes =
    hashless_from (hashless_within most order) order bytes (option_size order bytes)

-- Options without the hashes among them (section 4.3, epb_hash; appendix A, pack_hash).
unfoldable pub hashless : Endianness → List ℕ → List ℕ
hashless order bytes = hashless_within (length bytes) order bytes

-- the resolution that the value of if_tsresol says: microseconds where there is none (section 4.2)
abbrev pub resolution_in : Option (List ℕ) → ℕ
resolution_in None = 6
resolution_in (Some value) = slice_index value 0

-- seconds of 64 bits with a sign, in two's complement
abbrev pub offset_of : ℕ → Offset
offset_of seconds = if nat_lt seconds (2 ^ 63) then Ahead seconds else Behind (2 ^ 64 - seconds)

-- the seconds that the value of if_tsoffset says: none where there is none (section 4.2)
abbrev pub offset_in : Endianness → Option (List ℕ) → Offset
offset_in order None = Ahead 0
offset_in order (Some value) = offset_of (number order 8 value)

-- the options of an interface description block: between its first sixteen bytes and its last four
abbrev pub described_options : List ℕ → List ℕ
described_options own = drop 16 (take (length own - 4) own)

-- what an interface description block says (section 4.2)
unfoldable pub interface_in : Endianness → List ℕ → Interface
interface_in order own = record {
  link = link_numbered (number order 2 (drop 8 own));
  snap = number order 4 (drop 12 own);
  resolution = resolution_in (option_of order 9 1 (described_options own));
  offset = offset_in order (option_of order 14 8 (described_options own));
}
