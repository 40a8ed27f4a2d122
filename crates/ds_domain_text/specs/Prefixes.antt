-- Prefixes of addresses, as `10.0.1.0/24` and `2001:db8::/32`.
use Rattle.std.specs.Prelude.{ℕ, ◌≤◌, nat_lt, Bool, ◌==◌, ◌&&◌, if◌then◌else◌, List, [], ◌∷◌, length, slice_index, Option}
use Rattle.std.specs.Prelude.{None, Some, option_map, option_and_then}
use Rattle.std.specs.Int.{from_be_bytes, w32, w128}
use Rattle.std.specs.Net.Addr.{octets_of}
use Rattle.std.specs.Net.Reader.{read_ipv6}
use Rattle.std.specs.Option.{option_or}
use Rattle.line_text.specs.Numbers.{number_of}
use Rattle.ds_domain_text.specs.declared.prefix.AddressPrefix.{AddressPrefix}
use Rattle.ds_domain_text.specs.declared.prefix.AddressPrefix.TheVariants.{V4, V6}

-- the next step, where the one before gave something
infixl 10 ◌>>=◌
abbrev pub ◌>>=◌ : {A B : Type 0} → Option A → (A → Option B) → Option B
found >>= next = option_and_then next found

-- what stands before the first `mark` of a text, and what behind it
unfoldable pub cut_at : ℕ → List ℕ → Option (List ℕ × List ℕ)
cut_at mark [] = None
cut_at mark (byte ∷ text) =
    if byte == mark then Some ([], text) else option_map (λ parts. (byte ∷ parts.0, parts.1)) (cut_at mark text)

-- a '0' (48) with more behind it
abbrev pub has_leading_zero : List ℕ → Bool
has_leading_zero text = nat_lt 1 (length text) && (slice_index text 0 == 48)

-- a whole number in decimal digits without a leading zero, of at most `most`
unfoldable pub plain_number : ℕ → List ℕ → Option ℕ
plain_number most text = if has_leading_zero text then None else number_of most text

-- an address: four numbers from 0 to 255, a dot (46) between them, the first the highest byte
unfoldable pub address_of : List ℕ → Option ℕ
address_of text = do
  first ← cut_at 46 text
  second ← cut_at 46 first.1
  third ← cut_at 46 second.1
  a ← plain_number 255 first.0
  b ← plain_number 255 second.0
  c ← plain_number 255 third.0
  d ← plain_number 255 third.1
  Some (from_be_bytes w32 (a ∷ b ∷ c ∷ d ∷ []))

-- a prefix: an address and, behind a slash (47), how many of its first bits count, from 0 to 32
unfoldable pub ipv4_prefix_of : List ℕ → Option (ℕ × ℕ)
ipv4_prefix_of text = do
  parts ← cut_at 47 text
  address ← address_of parts.0
  count ← plain_number 32 parts.1
  Some (address, count)

-- what was read of a text, where nothing is left of it
abbrev pub all_read : Option (List ℕ × List ℕ) → Option (List ℕ)
all_read None = None
all_read (Some (segments, [])) = Some segments
all_read (Some (segments, byte ∷ rest)) = None

-- an address of IPv6, in any of its text forms (RFC 4291 section 2.2): as a number, the first byte in the highest bits
unfoldable pub ipv6_address_of : List ℕ → Option ℕ
ipv6_address_of text = option_map (λ segments. from_be_bytes w128 (octets_of segments)) (all_read (read_ipv6 text))

-- a prefix of such addresses, of 0 to 128 bits (RFC 4291 section 2.3)
unfoldable pub ipv6_prefix_of : List ℕ → Option (ℕ × ℕ)
ipv6_prefix_of text = do
  parts ← cut_at 47 text
  address ← ipv6_address_of parts.0
  count ← plain_number 128 parts.1
  Some (address, count)

-- a prefix of either family, or where addresses of IPv6 may not be asked for, of IPv4
abbrev pub prefix_of : Bool → List ℕ → Option AddressPrefix
prefix_of with_ipv6 text =
    option_or (option_map (λ parts. V4 parts.0 parts.1) (ipv4_prefix_of text))
    (if with_ipv6 then option_map (λ parts. V6 parts.0 parts.1) (ipv6_prefix_of text) else None)

-- no more bits count than an address has
abbrev pub IsLong : AddressPrefix → Type 0
IsLong (V4 address count) = count ≤ 32
IsLong (V6 address count) = count ≤ 128
