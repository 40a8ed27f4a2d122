-- What `arrivals` writes and tells.
use Rattle.std.specs.Prelude.{◌≡◌, ⊤, ℕ, Bool, List, [], Option, None, Some, Result, Ok, Err}
use Rattle.ds_domain.specs.DomainTexts.{parse_of}
use Rattle.pcap_capture.specs.declared.fault.PcapFault.{PcapFault}
use Rattle.dsedge_arrivals.specs.Arrivals.{Filter}
use Rattle.dsedge_arrivals.specs.Asked.{Asked, IsToldIn, refusal_in}
use Rattle.dsedge_arrivals.specs.Tellings.{IsToldAs, fault_of}
use Rattle.dsedge_arrivals.specs.declared.asking.ArrivalsFault.{ArrivalsFault}
use Rattle.dsedge_arrivals.specs.declared.asking.ArrivalsFault.TheVariants as arrivals
use Rattle.dsedge_base.specs.declared.work.GivenPort.{GivenPort}
use Rattle.dsedge_faults.specs.Advised.{advice_on}
use Rattle.dsedge_faults.specs.Faults.{status_of}
use Rattle.dsedge_json_faults.specs.FaultObjects.{IsFaultTold}
use Rattle.dsedge_faults.specs.declared.advice.Advice.{Advice}
use Rattle.dsedge_lines.specs.declared.fault.PumpFault.TheVariants as pump_faults
use Rattle.dsedge_serve.specs.Marked.{capture_fault}
use Rattle.dsedge_answers.specs.declared.conclusion.Conclusion.TheVariants.{Unsound}
use Rattle.dsedge_serve.specs.declared.outcome.Outcome.{Outcome}
use Rattle.dsedge_serve.specs.declared.outcome.Outcome.TheVariants.{Answered, Portless, Told, Unnamed}

-- what telling arrivals answered
abbrev pub telling_answer : Option PcapFault → Result (Unit {0}) PcapFault
telling_answer None = Ok tt
telling_answer (Some fault) = Err fault

-- the exit status of a telling
abbrev pub telling_status : Option PcapFault → ℕ
telling_status None = 0
telling_status (Some fault) = status_of (capture_fault fault)

-- a text tells that on standard error
abbrev pub IsTellingTold : Bool → Option PcapFault → List ℕ → Type 0
IsTellingTold in_json None text = text ≡ []
IsTellingTold in_json (Some fault) text = IsFaultTold in_json (capture_fault fault) text

abbrev pub telling_advice : Option PcapFault → Option Advice
telling_advice None = None
telling_advice (Some fault) = advice_on (capture_fault fault)

-- every packet arrives whose header can be read
abbrev pub every_packet : Bool → Filter
every_packet has_colours = record { port = None; contracts = []; only = None; has_colours = has_colours }

-- what is asked of a port
abbrev pub asked_at : GivenPort → Bool → Asked
asked_at place has_colours = record { port = place.port; contract = place.contract; has_colours = has_colours }

-- the outcome of arrivals at a port
abbrev pub outcome_of : Result (Unit {0}) ArrivalsFault → Outcome
outcome_of (Ok done) = Told None
outcome_of (Err (arrivals.Capture fault)) = Told (Some fault)
outcome_of (Err (arrivals.Domain fault)) = Answered (Ok (Unsound fault))
outcome_of (Err arrivals.UnknownPort) = Portless
outcome_of (Err arrivals.UnknownContract) = Unnamed
outcome_of (Err arrivals.NoMemory) = Answered (Err pump_faults.NoMemory)

-- The arrivals of a capture were told: every packet's, or those at a port of the domain that a text says.
abbrev pub AreToldFor : Option GivenPort → Bool → List ℕ → List ℕ → List ℕ → Outcome → List ℕ → List ℕ → Type 0
AreToldFor None has_colours text bytes more outcome before after = (told : Result (Unit {0}) PcapFault)
    × (outcome ≡ Told (fault_of told)) × IsToldAs (every_packet has_colours) bytes more before after told
AreToldFor (Some place) has_colours text bytes more outcome before after = (told : Result (Unit {0}) ArrivalsFault)
    × (outcome ≡ outcome_of told) × IsToldIn (parse_of text) (asked_at place has_colours) bytes more before after told

-- what stands against them before anything is read, if anything
abbrev pub refusal_for : Option GivenPort → Bool → List ℕ → Option ArrivalsFault
refusal_for None has_colours text = None
refusal_for (Some place) has_colours text = refusal_in (parse_of text) (asked_at place has_colours)
