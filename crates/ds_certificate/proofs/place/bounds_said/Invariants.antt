use Rattle.std.proofs.Common.{◌≡◌, ◌+◌, ◌-◌, drop}
use Rattle.line_text.specs.Lines.{lines_of}
use Rattle.ds_certificate.specs.Places.{bounds_said}
use Rattle.ds_certificate.proofs.place.bounds_said.Given as goal

-- the lines so far, and those of the hops that are left
abbrev pub invariant-loop-hop : goal.invariant-loop-hop
invariant-loop-hop l =
    (l.hop + bounds_said l.form l.contract.name l.hop (l.count - l.hop) (lines_of l.rest) ≡ bounds_said l.form l.contract.name 0 l.count (lines_of l.text))
    × (lines_of l.rest ≡ drop l.hop (lines_of l.text))
