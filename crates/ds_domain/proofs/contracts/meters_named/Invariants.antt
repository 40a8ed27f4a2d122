use Rattle.std.proofs.Common.{◌≡◌, drop, map, take}
use Rattle.ds_domain_base.specs.Fitting.{names_unknown}
use Rattle.ds_domain.proofs.contracts.meters_named.Given as goal

abbrev pub invariant-loop-text : goal.invariant-loop-text
invariant-loop-text l = record {
  named : l.names.items ≡ map (λ text. text.now) (take l.text-index l.texts);
  left : names_unknown l.domain (map (λ text. text.now) (drop l.text-index l.texts)) ≡ names_unknown l.domain (map (λ text. text.now) l.texts);
}
