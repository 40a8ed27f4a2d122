-- The lines that say a step: `send CONTRACT PACKET SIZE DSCP MOMENT` and `visit PACKET MOMENT`.
use Rattle.std.specs.Prelude.{◌≡◌, ℕ, ◌-◌, ◌^◌, nat_lt, List, [], ◌∷◌, codes, position, option_and_then, Option, None, Some, if◌then◌else◌, bytes_eq}
use Rattle.line_text.specs.Lines.{fields_of}
use Rattle.line_text.specs.Numbers.{number_of}
use Rattle.dsedge_lines.specs.Fronts.{IsFirstLine}
use Rattle.dsedge_lines.specs.Quantities.{size_in}
use Rattle.ds_domain_base.specs.declared.contract.Contract.{Contract}
use Rattle.meter_fabric_base.specs.Grounds.{most_flows}
use Rattle.ds_runs.specs.declared.step.Step.{Step}
use Rattle.ds_runs.specs.declared.step.Step.TheVariants.{Send, Visit}

-- the number of the contract of a name, among those of which packets can be
abbrev pub flow_named : List Contract → List ℕ → Option ℕ
flow_named contracts name = option_and_then
    (λ flow. if nat_lt flow most_flows then Some flow else None)
    (position (λ c. bytes_eq name c.name) contracts)

-- packets are numbered from 0 to 2^64 - 1, code points from 0 to 63, moments are 0 to 2^63 - 1 nanoseconds
abbrev pub send_of : List Contract → List ℕ → List ℕ → List ℕ → List ℕ → List ℕ → Option Step
send_of contracts name number bytes point at =
    option_and_then (λ flow.
    option_and_then (λ packet.
    option_and_then (λ size.
    option_and_then (λ dscp.
    option_and_then (λ moment. Some (Send flow packet size dscp moment))
    (number_of (2 ^ 63 - 1) at)) (number_of 63 point)) (size_in bytes)) (number_of (2 ^ 64 - 1) number))
    (flow_named contracts name)

abbrev pub visit_of : List ℕ → List ℕ → Option Step
visit_of number at =
    option_and_then (λ packet. option_and_then (λ moment. Some (Visit packet moment)) (number_of (2 ^ 63 - 1) at))
    (number_of (2 ^ 64 - 1) number)

abbrev pub step_of_fields : List Contract → List (List ℕ) → Option Step
step_of_fields contracts (verb ∷ number ∷ at ∷ []) = if bytes_eq verb (codes "visit") then visit_of number at else None
step_of_fields contracts (verb ∷ name ∷ number ∷ bytes ∷ point ∷ at ∷ []) =
    if bytes_eq verb (codes "send") then send_of contracts name number bytes point at else None
step_of_fields contracts _ = None

-- the step that a line says, with the name of one of these contracts
unfoldable pub step_in : List Contract → List ℕ → Option Step
step_in contracts line = step_of_fields contracts (fields_of line)

-- the step that the first line of a text says, where this verb and a space stand in front of the text
abbrev pub IsFrontStep : List Contract → List ℕ → List ℕ → Step → List ℕ → Type 0
IsFrontStep contracts verb text step rest =
    (line : List ℕ) × IsFirstLine text line rest × (step_of_fields contracts (verb ∷ fields_of line) ≡ Some step)
