-- How an accepted command stands in a row: its serial, what it did, the id that it was accepted with, the moment that was
-- given for it, and of a reserve the whole contract as it was given. A cell that says nothing is NULL.
use Rattle.std.specs.Prelude.{ℕ, pos, List, [], ◌∷◌, ◌++◌, codes, flat_map, replicate, Option, None, Some}
use Rattle.sqlite_value.specs.declared.value.Value.{Value}
use Rattle.sqlite_value.specs.declared.value.Value.TheVariants.{Null, Int, Text}
use Rattle.moment_core.specs.declared.colour.Mode.{Mode}
use Rattle.moment_core.specs.declared.colour.Mode.TheVariants.{Blind, Aware}
use Rattle.std.specs.Int.{to_be_bytes, w128}
use Rattle.std.specs.Net.Addr.{segments_of}
use Rattle.std.specs.Net.Text.{ipv6_text}
use Rattle.flow_classifier.specs.Parts.{PortRangeValue}
use Rattle.flow_classifier.specs.declared.prefix.Prefix.{Prefix}
use Rattle.flow_classifier.specs.declared.prefix.Prefix.TheVariants.{V4, V6}
use Rattle.flow_classifier.specs.declared.rule.Rule.{Rule}
use Rattle.meter_book_base.specs.declared.any_meter.Parameters.{Parameters}
use Rattle.meter_book_base.specs.declared.any_meter.Parameters.TheVariants.{SrTcm, TrTcm, Rfc4115}
use Rattle.ds_domain_base.specs.declared.contract.Contract.{Contract}
use Rattle.ds_domain_base.specs.declared.terms.Profile.{Profile}
use Rattle.ds_domain_base.specs.declared.terms.Peak.{Peak}
use Rattle.ds_domain_base.specs.declared.terms.Terms.{Terms}
use Rattle.ds_domain_base.specs.declared.terms.Terms.TheVariants.{Trusted, Policed}
use Rattle.ds_broker.specs.declared.command.Command.{Command}
use Rattle.ds_broker.specs.declared.command.Command.TheVariants.{Reserve, Release, Retire}

abbrev pub number_cell : ℕ → Value
number_cell n = Int (pos n)

-- a number, if there is one
abbrev pub choice_cell : Option ℕ → Value
choice_cell None = Null
choice_cell (Some n) = Int (pos n)

-- the meters of a path in their order, each behind a slash (47), which no name has
abbrev pub path_text : List (List ℕ) → List ℕ
path_text meters = flat_map (λ meter. 47 ∷ meter) meters

-- a rate in bits per second, and a burst in bytes
abbrev pub profile_cells : Profile → List Value
profile_cells p = number_cell p.rate ∷ number_cell p.burst ∷ []

abbrev pub choice_cells : Option Profile → List Value
choice_cells None = Null ∷ Null ∷ []
choice_cells (Some p) = profile_cells p

-- what green and yellow packets keep, and yellow ones on their own
abbrev pub peak_cells : Option Peak → List Value
peak_cells None = Null ∷ Null ∷ Null ∷ Null ∷ []
peak_cells (Some p) = profile_cells p.profile ++ choice_cells p.excess

-- CIR, CBS, PIR, PBS, EIR and EBS
abbrev pub parameters_cells : Parameters → List Value
parameters_cells (SrTcm p) =
    number_cell p.committed_rate ∷ number_cell p.committed_burst ∷ Null ∷ Null ∷ Null ∷ number_cell p.excess_burst ∷ []
parameters_cells (TrTcm p) =
    number_cell p.committed_rate ∷ number_cell p.committed_burst ∷ number_cell p.peak_rate ∷ number_cell p.peak_burst
    ∷ Null ∷ Null ∷ []
parameters_cells (Rfc4115 p) =
    number_cell p.committed_rate ∷ number_cell p.committed_burst ∷ Null ∷ Null ∷ number_cell p.excess_rate
    ∷ number_cell p.excess_burst ∷ []

abbrev pub kind_text : Parameters → List ℕ
kind_text (SrTcm p) = codes "srtcm"
kind_text (TrTcm p) = codes "trtcm"
kind_text (Rfc4115 p) = codes "rfc4115"

abbrev pub mode_text : Mode → List ℕ
mode_text Blind = codes "blind"
mode_text Aware = codes "aware"

-- the kind, the mode, and the rates and bursts
abbrev pub terms_cells : Terms → List Value
terms_cells (Trusted committed peak) = Text (codes "trusted") ∷ Null ∷ (profile_cells committed ++ peak_cells peak)
terms_cells (Policed parameters mode) =
    Text (kind_text parameters) ∷ Text (mode_text mode) ∷ parameters_cells parameters

-- an address of IPv6 as std writes it (RFC 5952)
unfoldable pub address_text : ℕ → List ℕ
address_text address = ipv6_text (segments_of (to_be_bytes w128 address))

-- an address of IPv4 as a number of 32 bits, one of IPv6 as a text, and how many bits count
abbrev pub prefix_cells : Option Prefix → List Value
prefix_cells None = Null ∷ Null ∷ []
prefix_cells (Some (V4 p)) = number_cell p.address ∷ number_cell p.length ∷ []
prefix_cells (Some (V6 p)) = Text (address_text p.address) ∷ number_cell p.length ∷ []

-- the lowest port, and the highest
abbrev pub range_cells : Option PortRangeValue → List Value
range_cells None = Null ∷ Null ∷ []
range_cells (Some r) = number_cell r.low ∷ number_cell r.high ∷ []

abbrev pub rule_cells : Rule → List Value
rule_cells r =
    prefix_cells r.source ++ prefix_cells r.target ++ (choice_cell r.protocol ∷ []) ++ range_cells r.source_ports
    ++ range_cells r.target_ports
    ++ (choice_cell r.dscp ∷ [])

abbrev pub contract_cells : Contract → List Value
contract_cells c =
    (Text c.name ∷ Text c.port ∷ Text (path_text c.path) ∷ number_cell c.class ∷ []) ++ terms_cells c.terms
    ++ (number_cell c.lifetime.since ∷ choice_cell c.lifetime.until ∷ [])
    ++ rule_cells c.rule

-- the serial, what was done, the id, and the moment
abbrev pub head_cells : ℕ → List ℕ → ℕ → Value → List Value
head_cells serial done id moment = number_cell serial ∷ Text done ∷ number_cell id ∷ moment ∷ []

-- in place of a contract
abbrev pub no_contract : List Value
no_contract = replicate 24 Null

-- the row of a command that was accepted with this serial and this id
abbrev pub cells_of : ℕ → ℕ → Command → List Value
cells_of serial id (Reserve c) = head_cells serial (codes "reserve") id Null ++ contract_cells c
cells_of serial id (Release of at) = head_cells serial (codes "release") id (number_cell at) ++ no_contract
cells_of serial id (Retire of moment) = head_cells serial (codes "retire") id (number_cell moment) ++ no_contract

-- the id of a command: that of the contract that it names, or where it grants one, this
abbrev pub id_of : ℕ → Command → ℕ
id_of granted (Reserve c) = granted
id_of granted (Release id at) = id
id_of granted (Retire id moment) = id
