use Rattle.std.proofs.Common.{◌≡◌, ◌-◌}
use Rattle.line_text.specs.Lines.{lines_of}
use Rattle.ds_certificate.specs.Readings.{bounds_in, left_of}
use Rattle.ds_certificate.proofs.reading.behind_bounds.Given as goal

-- what the hops that are left leave is what all leave
abbrev pub invariant-loop-hop : goal.invariant-loop-hop
invariant-loop-hop l =
    left_of (bounds_in l.form l.contract.name l.hop (l.count - l.hop) (lines_of l.rest)) ≡ left_of (bounds_in l.form l.contract.name 0 l.count (lines_of l.text))
