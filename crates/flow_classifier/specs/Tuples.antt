-- Rules by how many bits of addresses they ask for: a source's and a target's.
use Rattle.std.specs.Prelude.{◌≡◌, ℕ, ◌+◌, ◌-◌, ◌*◌, ◌/◌, ◌%◌, ◌^◌, ◌<◌, if◌then◌else◌, Bool, true, false, nat_eq, ◌&&◌, List, []}
use Rattle.std.specs.Prelude.{◌∷◌, All, length, slice_get, Option, None, Some, is_none}
use Rattle.std.specs.List.{list_any}
use Rattle.std.specs.List.Sorted.{IsSorted}
use Rattle.std.specs.Ordering.{nat_cmp, ordering_then}
use Rattle.std.specs.declared.cmp.Ordering.{Ordering}
use Rattle.flow_classifier.specs.Families.{can_take_ipv4}
use Rattle.flow_classifier.specs.Matching.{holds}
use Rattle.flow_classifier.specs.Keys.{source_of, target_of}
use Rattle.flow_classifier.specs.declared.key.Address.{Address}
use Rattle.flow_classifier.specs.declared.key.Address.TheVariants as addresses
use Rattle.flow_classifier.specs.declared.key.Key.{Key}
use Rattle.flow_classifier.specs.declared.prefix.Prefix.{Prefix}
use Rattle.flow_classifier.specs.declared.prefix.Prefix.TheVariants as prefixes
use Rattle.flow_classifier.specs.declared.rule.Rule.{Rule}
use Rattle.flow_classifier.specs.declared.table.FlowRule.{FlowRule}
use Rattle.flow_classifier.specs.declared.tuples.Lengths.{Lengths}
use Rattle.flow_classifier.specs.declared.tuples.Row.{Row}
use Rattle.flow_classifier.specs.declared.tuples.Tuple.{Tuple}

-- how many first bits of an address a rule asks for, none where it asks for no address
abbrev pub length_asked : Option Prefix → ℕ
length_asked None = 0
length_asked (Some (prefixes.V4 prefix)) = prefix.length
length_asked (Some (prefixes.V6 prefix)) = prefix.length

-- the first bits of an address, so many of them, and of these the last 32
abbrev pub last_bits : ℕ → Address → ℕ
last_bits count (addresses.V4 address) = address / 2 ^ (32 - count)
last_bits count (addresses.V6 address) = address / 2 ^ (128 - count) % 2 ^ 32

-- those that a rule asks for
abbrev pub bits_asked : Option Prefix → ℕ
bits_asked None = 0
bits_asked (Some (prefixes.V4 prefix)) = last_bits prefix.length (addresses.V4 prefix.address)
bits_asked (Some (prefixes.V6 prefix)) = last_bits prefix.length (addresses.V6 prefix.address)

-- an address is one of 32 bits, or one of 128
abbrev pub IsAddress : Address → Type 0
IsAddress (addresses.V4 address) = address < 2 ^ 32
IsAddress (addresses.V6 address) = address < 2 ^ 128

-- of how many bits a rule asks
abbrev pub lengths_of : Rule → Lengths
lengths_of rule = record { source = length_asked rule.source; target = length_asked rule.target }

abbrev pub same_lengths : Lengths → Lengths → Bool
same_lengths m n = nat_eq m.source n.source && nat_eq m.target n.target

-- bits of a source and of a target as one number, the source's in its high bits
abbrev pub as_one : ℕ → ℕ → ℕ
as_one source target = source * 2 ^ 32 + target

-- what a rule asks for, in the last of the bits that count
abbrev pub addresses_of : Rule → ℕ
addresses_of rule = as_one (bits_asked rule.source) (bits_asked rule.target)

-- what a packet has in the last of so many bits
abbrev pub addresses_under : Lengths → Key → ℕ
addresses_under lengths key =
    as_one (last_bits lengths.source (source_of key.addresses)) (last_bits lengths.target (target_of key.addresses))

-- a rule asks a packet of IPv4 for nothing beside addresses
abbrev pub asks_no_more : Rule → Bool
asks_no_more rule =
    can_take_ipv4 rule && is_none rule.protocol && is_none rule.dscp && is_none rule.source_ports
    && is_none rule.target_ports

-- by what rows ask for, then by their places
abbrev pub row_cmp : Row → Row → Ordering
row_cmp r s = ordering_then (nat_cmp r.addresses s.addresses) (nat_cmp r.place s.place)

-- the row of a rule at a place
abbrev pub row_at : ℕ → FlowRule → Row
row_at place row = record { addresses = addresses_of row.rule; place = place }

-- those of the rules that ask for so many bits, of which the first rule stands at a place
abbrev pub rows_from : Lengths → ℕ → List FlowRule → List Row
rows_from lengths place [] = []
rows_from lengths place (row ∷ rules) =
    if same_lengths (lengths_of row.rule) lengths then row_at place row ∷ rows_from lengths (place + 1) rules
    else rows_from lengths (place + 1) rules

-- the rule at a place holds of a packet
abbrev pub IsHeldAt : List FlowRule → Key → ℕ → Type 0
IsHeldAt rules key place = (row : FlowRule) → slice_get rules place ≡ Some row → holds row.rule key ≡ true

-- it does not
abbrev pub IsNotHeldAt : List FlowRule → Key → ℕ → Type 0
IsNotHeldAt rules key place = (row : FlowRule) → slice_get rules place ≡ Some row → holds row.rule key ≡ false

-- a rule asks for no more than addresses, the target's of so many bits
abbrev pub AsksNoMore : Rule → Type 0
AsksNoMore rule = (bits_asked rule.target < 2 ^ 32) × (asks_no_more rule ≡ true)

-- so does one that asks for so many bits
abbrev pub IsDecided : Lengths → Rule → Type 0
IsDecided lengths rule = (same_lengths (lengths_of rule) lengths ≡ true) × AsksNoMore rule

-- The rows of a tuple are in order, each is that of the rule at its place, and each rule that asks for as many bits as
-- the tuple has one. Where addresses decide, these rules ask for no more.
pub record IsTupleOf (rules : List FlowRule) (t : Tuple) : Type 0 where
  pub sorted : IsSorted row_cmp t.rows.items
  pub within : All (λ r. r.place < length rules) t.rows.items
  pub asked : All (λ r. (row : FlowRule) → slice_get rules r.place ≡ Some row → r.addresses ≡ addresses_of row.rule)
      t.rows.items
  pub decided : t.decides ≡ true
      → All (λ r. (row : FlowRule) → slice_get rules r.place ≡ Some row → IsDecided t.lengths row.rule) t.rows.items
  pub placed : (k : ℕ) (row : FlowRule) → slice_get rules k ≡ Some row → same_lengths (lengths_of row.rule) t.lengths ≡ true
      → list_any (λ r. nat_eq r.place k) t.rows.items ≡ true

-- each of them is a tuple of the rules, and each rule is in one
pub record AreTuplesOf (rules : List FlowRule) (tuples : List Tuple) : Type 0 where
  pub each : All (λ t. IsTupleOf rules t) tuples
  pub covered : All (λ row. list_any (λ t. same_lengths (lengths_of row.rule) t.lengths) tuples ≡ true) rules
