-- What the verdict on packets that are sent is of the run behind them.
use Rattle.std.specs.Prelude.{◌≡◌, List}
use Rattle.ds_checker.specs.Acceptance.{IsAcceptable, Table}
use Rattle.meter_fabric_base.specs.Grounds.{ground_of}
use Rattle.run_audit.specs.Runs.{Run}
use Rattle.run_audit.specs.Verdicts.{verdict_of}
use Rattle.ds_conductor_base.specs.Ways.{AreInReach}
use Rattle.ds_conductor_base.specs.declared.sent.Sent.{Sent}
use Rattle.ds_runs.specs.Behind.{AreSendable, IsBehind}
use Rattle.ds_runs.specs.Making.{run_behind}
use Rattle.ds_runs.specs.Judged.{judged}
use Rattle.ds_runs.specs.Judging.{unjudged, verdict_with}

-- The verdict on each run behind packets that are sent is told of these packets alone.
abbrev pub TheRunIsJudged : Type 0
TheRunIsJudged =
    (t : Table) (sent : List Sent) (run : Run) → AreInReach t → AreSendable t sent → IsBehind t sent run
    → verdict_of (ground_of t) run ≡ judged t sent

-- It is told of what is kept of them.
abbrev pub TheJudgeTells : Type 0
TheJudgeTells = (t : Table) (sent : List Sent) → AreSendable t sent → verdict_with (unjudged t) sent ≡ judged t sent

-- Where a table is acceptable, it is the verdict on the run that is made of them.
abbrev pub TheMadeRunIsJudged : Type 0
TheMadeRunIsJudged =
    (t : Table) (sent : List Sent) → IsAcceptable t → AreInReach t → AreSendable t sent
    → verdict_with (unjudged t) sent ≡ verdict_of (ground_of t) (run_behind t sent)
