-- Where the fields of an IPv4 header stand, in bytes from its front (RFC 791 section 3.1).
use Rattle.std.specs.Prelude.{ℕ}

-- the version in the upper half, the length of the header in the lower
abbrev pub version_and_length : ℕ
version_and_length = 0

-- the type of service, whose upper six bits are the code point (RFC 2474 section 3)
abbrev pub type_of_service : ℕ
type_of_service = 1

-- two bytes
abbrev pub total_length_field : ℕ
total_length_field = 2

-- two bytes: three bits of flags, thirteen of the fragment's place
abbrev pub flags_and_offset : ℕ
flags_and_offset = 6

abbrev pub protocol_field : ℕ
protocol_field = 9

-- two bytes
abbrev pub checksum_field : ℕ
checksum_field = 10

-- four bytes each
abbrev pub source_address : ℕ
source_address = 12

abbrev pub target_address : ℕ
target_address = 16

-- where the options begin, if there are any: the fixed part is that long
abbrev pub options : ℕ
options = 20
