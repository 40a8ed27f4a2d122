-- What there is to say behind what is told of a plan, where it is read at a terminal.
use Rattle.std.specs.Prelude.{Bool, List, ℕ, Option, None, Some}
use Rattle.ds_marking.specs.declared.fault.MarkFault.{MarkFault}
use Rattle.dsedge_faults.specs.Advised.{advice_on}
use Rattle.dsedge_faults.specs.declared.advice.Advice.{Advice}
use Rattle.dsedge_json_faults.specs.FaultObjects.{advice_as}
use Rattle.dsedge_faults.specs.declared.fault.Fault.TheVariants.{Contract, Port, Usage}
use Rattle.dsedge_serve.specs.Marked.{marking_fault}
use Rattle.dsedge_base.specs.Files.{Names}
use Rattle.dsedge_answers.specs.Replies.{advice_for}
use Rattle.dsedge_serve.specs.Told.{telling_advice}
use Rattle.dsedge_serve.specs.declared.outcome.Outcome.{Outcome}
use Rattle.dsedge_serve.specs.declared.outcome.Outcome.TheVariants.{Answered, Marked, Misused, Portless, Told, Unnamed}

abbrev pub marking_advice : Option MarkFault → List ℕ → Option Advice
marking_advice None port = None
marking_advice (Some fault) port = advice_on (marking_fault port fault)

-- what there is to say behind what is told of a plan that went so
abbrev pub advice_after : Bool → Names → Outcome → Option Advice
advice_after in_json names (Answered outcome) = advice_as in_json (advice_for outcome)
advice_after in_json names Unnamed = advice_as in_json (advice_on (Contract names.contract))
advice_after in_json names Misused = advice_as in_json (advice_on Usage)
advice_after in_json names (Marked report fault told) = advice_as in_json (marking_advice fault names.port)
advice_after in_json names Portless = advice_as in_json (advice_on (Port names.port))
advice_after in_json names (Told fault) = advice_as in_json (telling_advice fault)
