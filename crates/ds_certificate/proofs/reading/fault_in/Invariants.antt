use Rattle.std.proofs.Common.{◌≡◌, drop}
use Rattle.std.specs.Result.{result_err}
use Rattle.line_text.specs.Lines.{lines_of}
use Rattle.ds_certificate.specs.Readings.{rows_in}
use Rattle.ds_certificate.proofs.reading.fault_in.Given as goal

-- what is wrong with the lines of the contracts that are left is what is wrong with all
abbrev pub invariant-loop-contract : goal.invariant-loop-contract
invariant-loop-contract l =
    result_err (rows_in l.form (drop l.contract-index l.contracts) (lines_of l.rest)) ≡ result_err (rows_in l.form l.contracts (lines_of l.text))
