use Rattle.std.proofs.Common.{◌≡◌, ◌++◌, drop}
use Rattle.dsedge_json.specs.Certificates.{bounds_from, tokens_of}
use Rattle.dsedge_json.proofs.certificate.push_bounds.Given as goal

-- the tokens so far, and those of the bounds that are left
abbrev pub invariant-loop-bound : goal.invariant-loop-bound
invariant-loop-bound l = record {
  counted : l.hop ≡ l.bound-index;
  tokens : l.out.tokens ++ tokens_of (bounds_from l.name l.hop (drop l.bound-index l.bounds)) ≡ l.fn.out.tokens ++ tokens_of (bounds_from l.name 0 l.bounds);
  before : l.out.before ≡ l.fn.out.before;
}
