-- A text says what std's parser of addresses gives.
use Rattle.std.proofs.Common.{◌≡◌, ℕ, List, [], ◌∷◌, ◌++◌, Option, None, Some, Result, Ok, Err, refl, sym, ap, ◌∙◌, subst, append-nil}
use Rattle.std.specs.Int.{from_be_bytes, w128}
use Rattle.std.specs.Net.Addr.{ipv6_bits, octets_of}
use Rattle.std.specs.Net.Grammar.{IsColonHex, IsIpv6Text}
use Rattle.std.specs.Net.Reader.{read_ipv6}
use Rattle.std.specs.Option.{option_map}
use Rattle.std.specs.declared.net.ipv6_addr.Ipv6Addr.{Ipv6Addr}
use Rattle.std.proofs.NetLemmas.Ipv6.{EndsGroups-nil, read_ipv6_complete, read_ipv6_sound}
use Rattle.ds_domain_text.specs.Prefixes.{all_read, ipv6_address_of}

abbrev number_in : List ℕ → ℕ
number_in segments = from_be_bytes w128 (octets_of segments)

-- a text that is an address says its number
pub says : (text : List ℕ) (a : Ipv6Addr) (bits : ℕ) → IsIpv6Text text a → bits ≡ ipv6_bits a → Some bits ≡ ipv6_address_of text
unfolding ipv6_address_of ipv6_bits
says text a bits is number =
    let read : read_ipv6 text ≡ Some (a.segments, []) = ap read_ipv6 (sym (append-nil text)) ∙ read_ipv6_complete text a.segments [] is EndsGroups-nil in
    ap Some number ∙ ap (λ r. option_map number_in (all_read r)) (sym read)

-- and one that is none says nothing
pub says_nothing : (text : List ℕ) → ((a : Ipv6Addr) → ¬ (IsIpv6Text text a)) → None ≡ ipv6_address_of text
unfolding ipv6_address_of
says_nothing text none = by (read_ipv6 text) refl
  where
    by : (read : Option (List ℕ × List ℕ)) → read_ipv6 text ≡ read → None ≡ option_map number_in (all_read read)
    by None is = refl
    by (Some (segments, byte ∷ rest)) is = refl
    by (Some (segments, [])) is =
        let found = read_ipv6_sound text segments [] is in
        let whole : found.0 ≡ text = sym (append-nil found.0) ∙ sym found.1 in
        absurd (none (record { segments = segments }) (subst (λ front. IsColonHex front segments) whole found.2))
