use Rattle.std.proofs.Common.{◌≡◌, ◌+◌, drop}
use Rattle.line_text.specs.Lines.{lines_of}
use Rattle.ds_certificate.specs.Places.{rows_said}
use Rattle.ds_certificate.proofs.place.rows_said.Given as goal

-- the lines so far, and those of the contracts that are left
abbrev pub invariant-loop-contract : goal.invariant-loop-contract
invariant-loop-contract l =
    l.lines + rows_said l.form (drop l.contract-index l.contracts) (lines_of l.rest) ≡ rows_said l.form l.contracts (lines_of l.text)
