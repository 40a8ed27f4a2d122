use Rattle.std.proofs.Common.{◌≡◌, drop}
use Rattle.line_text.specs.Lines.{lines_of}
use Rattle.ds_certificate.specs.Readings.{rows_in}
use Rattle.ds_certificate.proofs.ReadingLaws.{rows_ahead}
use Rattle.ds_certificate.proofs.reading.rows_in.Given as goal

-- the rows so far, and those of the contracts that are left
abbrev pub invariant-loop-contract : goal.invariant-loop-contract
invariant-loop-contract l =
    rows_ahead l.rows.items (rows_in l.form (drop l.contract-index l.contracts) (lines_of l.rest)) ≡ rows_in l.form l.contracts (lines_of l.text)
