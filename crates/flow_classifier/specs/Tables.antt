-- Rules in the order in which they are asked, each with the number of its flow.
use Rattle.std.specs.Prelude.{ℕ, if◌then◌else◌, List, [], ◌∷◌, Option, None, Some}
use Rattle.flow_classifier.specs.Matching.{holds}
use Rattle.flow_classifier.specs.Parts.{mask_of, network_of}
use Rattle.flow_classifier.specs.declared.key.Key.{Key}
use Rattle.flow_classifier.specs.declared.prefix.Prefix.{Prefix}
use Rattle.flow_classifier.specs.declared.prefix.Prefix.TheVariants.{V4, V6}
use Rattle.flow_classifier.specs.declared.table.FlowRule.{FlowRule}

-- the flow of the first rule that holds
abbrev pub first_flow_of : List FlowRule → Key → Option ℕ
first_flow_of [] key = None
first_flow_of (row ∷ rows) key = if holds row.rule key then Some row.flow else first_flow_of rows key

-- the bits of a source of IPv4 that count for a rule, none where it asks for no such source
abbrev pub mask_asked : Option Prefix → ℕ
mask_asked None = 0
mask_asked (Some (V4 prefix)) = mask_of prefix.length
mask_asked (Some (V6 prefix)) = 0

-- what a source that is asked for has in these bits
abbrev pub network_asked : Option Prefix → ℕ
network_asked None = 0
network_asked (Some (V4 prefix)) = network_of prefix.address prefix.length
network_asked (Some (V6 prefix)) = 0
