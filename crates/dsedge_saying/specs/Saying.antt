-- What is said beside answers, where that is asked for.
use Rattle.std.specs.Prelude.{◌≡◌, ℕ, Bool, true, false, List, ◌++◌, Result, IfOk, OnErr}
use Rattle.pcap_capture.specs.declared.device.Outlet.{Ghosts}
use Rattle.dsedge_faults.specs.Faults.{IsTold}
use Rattle.dsedge_lines.specs.Answers.{Answer, BeginsWith}
use Rattle.dsedge_lines.specs.declared.command.Ending.{Ending}
use Rattle.dsedge_lines.specs.declared.fault.PumpFault.{PumpFault}

-- What there is to say was said behind what stood, or a front of it; nothing where it is not asked for.
abbrev pub IsSaid : Bool → List ℕ → List ℕ → ℕ → ℕ → Type 0
IsSaid true before after failed now = (text : List ℕ) × IsTold text before after failed now
IsSaid false before after failed now = (after ≡ before) × (now ≡ failed)

-- It was said to an outlet, as far as that tells which bytes it took.
pub record HasSaid {F : Type 0} (g : Ghosts F) (asked : Bool) (old new : F) : Type 0 where
  pub still : g.tells old → g.tells new
  pub said : g.tells old → IsSaid asked (g.held old) (g.held new) (g.failed old) (g.failed new)

-- A whole answer was written behind what stood; or a front of it, where a fault ended the call.
pub record IsPumped (whole : Answer) (result : Result Ending PumpFault) (before after : List ℕ) : Type 0 where
  pub whole_text : IfOk result (λ ending. (after ≡ before ++ whole.text) × (ending ≡ whole.ending))
  pub front : OnErr result ((front : List ℕ) × BeginsWith whole front × (after ≡ before ++ front))
