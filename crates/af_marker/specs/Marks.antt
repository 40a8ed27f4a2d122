-- Marking: a code point put into a header, whose checksum stays right.
use Rattle.std.specs.Prelude.{ℕ, ◌+◌, ◌-◌, ◌*◌, ◌%◌, if◌then◌else◌, List, ◌++◌, take, drop, slice_index, slice_set}
use Rattle.byteorder.specs.Endian.{big_bytes}
use Rattle.af_marker.specs.Checksums.{ones_sum, words}
use Rattle.af_marker.specs.Fields.{checksum_field, type_of_service}
use Rattle.af_marker.specs.Headers.{header_length, is_verified}

-- the code point is the upper six bits of the type of service, whose lower two stay (RFC 2474 section 3)
abbrev pub with_dscp : ℕ → List ℕ → List ℕ
with_dscp dscp bytes = slice_set bytes type_of_service (4 * dscp + slice_index bytes type_of_service % 4)

-- the checksum has two bytes (RFC 791 section 3.1)
abbrev pub with_checksum : ℕ → List ℕ → List ℕ
with_checksum checksum bytes = take checksum_field bytes ++ (big_bytes 2 checksum ++ drop (checksum_field + 2) bytes)

-- The checksum of a header: the ones' complement of the ones' complement sum of its words, the checksum taken as 0
-- (RFC 791 section 3.1).
abbrev pub checksum_of : List ℕ → ℕ
checksum_of bytes = 65535 - ones_sum (words (take (header_length bytes) (with_checksum 0 bytes)))

-- a header with another code point; its checksum is brought up to it where it was right, and stays where it was not
unfoldable pub marked : ℕ → List ℕ → List ℕ
marked dscp bytes =
    if is_verified bytes then
    with_checksum (checksum_of (with_dscp dscp bytes)) (with_dscp dscp bytes)
    else
    with_dscp dscp bytes
