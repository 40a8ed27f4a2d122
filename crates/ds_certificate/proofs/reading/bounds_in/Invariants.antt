use Rattle.std.proofs.Common.{◌≡◌, ◌-◌}
use Rattle.line_text.specs.Lines.{lines_of}
use Rattle.ds_certificate.specs.Readings.{bounds_in}
use Rattle.ds_certificate.proofs.ReadingLaws.{ahead}
use Rattle.ds_certificate.proofs.reading.bounds_in.Given as goal

-- the bounds so far, and those of the hops that are left
abbrev pub invariant-loop-hop : goal.invariant-loop-hop
invariant-loop-hop l =
    ahead l.hops.items (bounds_in l.form l.contract.name l.hop (l.count - l.hop) (lines_of l.rest)) ≡ bounds_in l.form l.contract.name 0 l.count (lines_of l.text)
