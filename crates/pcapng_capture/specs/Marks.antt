-- How a block is written whose packet is marked.
use Rattle.std.specs.Prelude.{ℕ, ◌-◌, nat_eq, if◌then◌else◌, List, [], ◌++◌}
use Rattle.std.specs.Prelude.{length, take, drop}
use Rattle.byteorder.specs.Endian.{big_bytes, little_bytes}
use Rattle.pcap_capture.specs.declared.heading.Endianness.{Endianness}
use Rattle.pcap_capture.specs.declared.heading.Endianness.TheVariants.{Big, Little}
use Rattle.pcap_capture.specs.Frames.{FrameValue, text_in}
use Rattle.pcapng_capture.specs.Options.{hashless, padded}
use Rattle.pcap_capture.specs.declared.content.Content.{Content}
use Rattle.pcap_capture.specs.declared.content.Content.TheVariants.{Other, Record, Block}

-- the bytes of a number, in the order of the section
abbrev pub number_bytes : Endianness → ℕ → ℕ → List ℕ
number_bytes Big count value = big_bytes count value
number_bytes Little count value = little_bytes count value

-- how many bytes fill the packet up to a multiple of four
abbrev pub padding : FrameValue → ℕ
padding block = padded (length block.bytes) - length block.bytes

-- The options of a packet's block, which stand between the filled-up packet and the last four bytes. A simple packet
-- block, whose packet stands behind twelve bytes, has none (section 4.4).
abbrev pub packet_options : FrameValue → List ℕ
packet_options block =
    if nat_eq (length block.head) 12 then []
    else drop (padding block) (take (length block.tail - 4) block.tail)

-- how many bytes the hashes among a block's options have
abbrev pub hash_size : Endianness → FrameValue → ℕ
hash_size order block = length (packet_options block) - length (hashless order (packet_options block))

-- how many bytes a block has without them
abbrev pub hashless_size : Endianness → FrameValue → ℕ
hashless_size order block = length (text_in block) - hash_size order block

-- a block without the hashes, whose packet has these bytes, and with this size at both places
abbrev pub rewritten : Endianness → FrameValue → List ℕ → List ℕ → List ℕ
rewritten order block size bytes =
    (take 4 block.head ++ (size ++ drop 8 block.head))
    ++ (bytes ++ (take (padding block) block.tail ++ (hashless order (packet_options block) ++ size)))

abbrev pub marked_by : Endianness → FrameValue → List ℕ → List ℕ
marked_by order block bytes =
    if nat_eq (hash_size order block) 0 then block.head ++ (bytes ++ block.tail)
    else rewritten order block (number_bytes order 4 (hashless_size order block)) bytes

abbrev pub marked_in : Content → FrameValue → List ℕ → List ℕ
marked_in Other block bytes = block.head ++ (bytes ++ block.tail)
marked_in (Record link) block bytes = block.head ++ (bytes ++ block.tail)
marked_in (Block link order) block bytes = marked_by order block bytes

-- A block whose packet has these bytes instead: all else stays, but a hash of the packet's own bytes no longer holds,
-- and is left out (section 4.3, epb_hash; appendix A, pack_hash).
unfoldable pub marked_text : FrameValue → List ℕ → List ℕ
marked_text block bytes = marked_in block.content block bytes
