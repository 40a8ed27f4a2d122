-- What holds of the run behind packets that are sent.
use Rattle.std.specs.Prelude.{◌≡◌, ℕ, List, option_map, slice_get, Some}
use Rattle.ds_domain_base.specs.Sent.{came}
use Rattle.ds_domain_base.specs.declared.contract.Contract.{Contract}
use Rattle.ds_checker.specs.Acceptance.{IsAcceptable, Table}
use Rattle.meter_fabric_base.specs.Grounds.{contract_of, ground_of}
use Rattle.run_audit.specs.Premises.{IsTrusted}
use Rattle.run_audit.specs.Runs.{Passage, Run}
use Rattle.run_audit.specs.Sendings.{sending_of}
use Rattle.run_audit.specs.Verdicts.{verdict_of}
use Rattle.run_audit.specs.declared.verdict.Verdict.TheVariants.{Kept}
use Rattle.ds_conductor_base.specs.Passing.{colours_of}
use Rattle.ds_conductor_base.specs.declared.sent.Sent.{Sent}
use Rattle.ds_runs.specs.Behind.{AreSendable, IsBehind}
use Rattle.ds_runs.specs.Making.{run_behind}

-- Where a table is acceptable, the run that is made of packets that can be sent is behind them.
abbrev pub TheRunIsBehind : Type 0
TheRunIsBehind = (t : Table) (sent : List Sent)
    → IsAcceptable t → AreSendable t sent → IsBehind t sent (run_behind t sent)

-- Each packet is marked with the colour that it was sent with: what is policed with the colour that its edge gave, and
-- what is trusted with the one that its code point shows.
pub record MarksAreSentColours (t : Table) (sent : List Sent) (run : Run) : Type 0 where
  pub each : (place : ℕ) (p : Passage) (c : Contract) → slice_get run.passages place ≡ Some p
      → contract_of (ground_of t) p.packet.flow ≡ Some c
      → slice_get (colours_of t sent) place ≡ option_map (λ s. s.colour) (sending_of c p)
  pub trusted : (place : ℕ) (s : Sent) (c : Contract) → slice_get sent place ≡ Some s
      → contract_of (ground_of t) s.flow ≡ Some c → IsTrusted c.terms
      → slice_get (colours_of t sent) place ≡ Some (came c s.dscp)

-- Where the verdict on a run behind packets is Kept, each is marked with the colour that it was sent with.
abbrev pub KeptMarksAreSentColours : Type 0
KeptMarksAreSentColours = (t : Table) (sent : List Sent) (run : Run) → IsAcceptable t → IsBehind t sent run
    → verdict_of (ground_of t) run ≡ Kept → MarksAreSentColours t sent run
