-- What is asked of a capture's arrivals at a port of the domain that a text says.
use Rattle.std.specs.Prelude.{◌≡◌, ◌⊎◌, ℕ, List, Bool, MatchBool, Option, None, Some, IfSome, is_none, Result, Ok, Err, option_map, if◌then◌else◌}
use Rattle.ds_domain_base.specs.Domains.{Domain, is_port}
use Rattle.pcap_capture.specs.declared.fault.PcapFault.{PcapFault}
use Rattle.ds_domain_base.specs.declared.contract.Contract.{Contract}
use Rattle.ds_domain_base.specs.declared.fault.DomainFault.{DomainFault}
use Rattle.dsedge_texts.specs.Wording.{place_named}
use Rattle.dsedge_arrivals.specs.Arrivals.{Filter, IsFilterAt}
use Rattle.dsedge_arrivals.specs.Tellings.{IsToldAs}
use Rattle.dsedge_arrivals.specs.declared.asking.ArrivalsFault.{ArrivalsFault}
use Rattle.dsedge_arrivals.specs.declared.asking.ArrivalsFault.TheVariants as faults

-- the port, the contract whose packets are asked for alone, if one is, and whether colours are told
pub record Asked : Type 0 where
  pub port : List ℕ
  pub contract : Option (List ℕ)
  pub has_colours : Bool

-- the numbers of the contracts whose packets are asked for: of all, or the one of a name, if there is one
abbrev pub asked_alone : List Contract → Option (List ℕ) → Option (Option ℕ)
asked_alone contracts None = Some None
asked_alone contracts (Some name) = option_map Some (place_named contracts name)

-- nothing was told, for this reason
abbrev pub IsUntold : ArrivalsFault → List ℕ → List ℕ → Result (Unit {0}) ArrivalsFault → Type 0
IsUntold fault before after result = (result ≡ Err fault) × (after ≡ before)

-- what was told by a filter
abbrev pub IsToldBy : Filter → List ℕ → List ℕ → List ℕ → List ℕ → Result (Unit {0}) ArrivalsFault → Type 0
IsToldBy filter bytes more before after (Ok done) = IsToldAs filter bytes more before after (Ok done)
IsToldBy filter bytes more before after (Err (faults.Capture fault)) = IsToldAs filter bytes more before after (Err fault)
IsToldBy filter bytes more before after (Err (faults.Domain fault)) = ⊥
IsToldBy filter bytes more before after (Err faults.UnknownPort) = ⊥
IsToldBy filter bytes more before after (Err faults.UnknownContract) = ⊥
IsToldBy filter bytes more before after (Err faults.NoMemory) = ⊥

-- what was told of these contracts' packets, if there are such
abbrev pub IsToldOf : Domain → List Contract → Asked → Option (Option ℕ) → List ℕ → List ℕ → List ℕ → List ℕ
    → Result (Unit {0}) ArrivalsFault → Type 0
IsToldOf d contracts asked None bytes more before after result = IsUntold faults.UnknownContract before after result
IsToldOf d contracts asked (Some only) bytes more before after result =
    IsUntold faults.NoMemory before after result ⊎ ((filter : Filter) × IsFilterAt d.version contracts asked.port only asked.has_colours filter
    × IsToldBy filter bytes more before after result)

-- what was told at the port of a domain, if it has one of that name
abbrev pub IsToldAt : Domain → List Contract → Asked → List ℕ → List ℕ → List ℕ → List ℕ
    → Result (Unit {0}) ArrivalsFault → Type 0
IsToldAt d contracts asked bytes more before after result = MatchBool (is_port d asked.port)
    (IsToldOf d contracts asked (asked_alone contracts asked.contract) bytes more before after result)
    (IsUntold faults.UnknownPort before after result)

-- what was told for the domain that a text says, or for the text's first fault; or memory ran out before
abbrev pub IsToldFor : Result (Domain × List Contract) DomainFault → Asked → List ℕ → List ℕ → List ℕ → List ℕ
    → Result (Unit {0}) ArrivalsFault → Type 0
IsToldFor (Ok parsed) asked bytes more before after result = IsToldAt parsed.0 parsed.1 asked bytes more before after result
IsToldFor (Err fault) asked bytes more before after result = IsUntold (faults.Domain fault) before after result

abbrev pub IsToldIn : Result (Domain × List Contract) DomainFault → Asked → List ℕ → List ℕ → List ℕ → List ℕ
    → Result (Unit {0}) ArrivalsFault → Type 0
IsToldIn found asked bytes more before after result =
    IsUntold faults.NoMemory before after result ⊎ IsToldFor found asked bytes more before after result

-- what stands against what is asked, before anything is read
abbrev pub refusal_at : Domain → List Contract → Asked → Option ArrivalsFault
refusal_at d contracts asked = if is_port d asked.port
    then (if is_none (asked_alone contracts asked.contract) then Some faults.UnknownContract else None)
    else Some faults.UnknownPort

abbrev pub refusal_in : Result (Domain × List Contract) DomainFault → Asked → Option ArrivalsFault
refusal_in (Ok parsed) asked = refusal_at parsed.0 parsed.1 asked
refusal_in (Err fault) asked = Some (faults.Domain fault)

-- where something stands against it, that is the answer whatever the devices do, or want of memory
abbrev pub IsRefusedBefore : Option ArrivalsFault → Result (Unit {0}) ArrivalsFault → Type 0
IsRefusedBefore refusal result =
    IfSome refusal (λ fault. (result ≡ Err fault) ⊎ (result ≡ Err faults.NoMemory))

-- what reading and writing came to, where something was read
abbrev pub telling_of : Result (Unit {0}) ArrivalsFault → Result (Unit {0}) PcapFault
telling_of (Err (faults.Capture fault)) = Err fault
telling_of _ = Ok tt
