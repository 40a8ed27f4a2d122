use Rattle.std.proofs.Common.{◌≡◌, ◌++◌, drop}
use Rattle.ds_certificate.specs.Texts.{ended, lines_from}
use Rattle.ds_certificate.proofs.TextLaws.{ReadBack}
use Rattle.ds_certificate.proofs.writing.push_bounds.Given as goal

-- the lines so far, and those of the bounds that are left
abbrev pub invariant-loop-bound : goal.invariant-loop-bound
invariant-loop-bound l = record {
  counted : l.hop ≡ l.bound-index;
  lines : l.text.items ++ ended (lines_from l.form l.name l.hop (drop l.bound-index l.bounds)) ≡ l.fn.text.items ++ ended (lines_from l.form l.name 0 l.bounds);
  reads : ReadBack l.form l.name l.hop (drop l.bound-index l.bounds) → ReadBack l.form l.name 0 l.bounds;
}
