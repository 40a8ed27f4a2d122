use Rattle.std.proofs.Common.{◌≡◌, drop}
use Rattle.line_text.specs.Lines.{fields_of}
use Rattle.line_text.proofs.LeadingLemmas.{digits_on}
use Rattle.line_text.proofs.leading.leading_number.Given as goal

-- the digits that are left, read on from the value so far, say what all of them say
abbrev pub invariant-loop-place : goal.invariant-loop-place
invariant-loop-place l = digits_on l.most l.place l.value (fields_of (drop l.place l.line)) ≡ digits_on l.most 0 0 (fields_of l.line)
