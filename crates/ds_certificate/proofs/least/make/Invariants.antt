use Rattle.std.proofs.Common.{◌≡◌, ◌++◌, drop, false}
use Rattle.std.specs.List.{list_all}
use Rattle.ds_certificate.specs.Bounds.{fits, least}
use Rattle.ds_certificate.proofs.least.make.Given as goal

-- all fit if those that are left do, and unless memory ran out their least bounds are left
abbrev pub invariant-loop-contract : goal.invariant-loop-contract
invariant-loop-contract l = record {
  fitting : list_all (fits l.domain) (drop l.contract-index l.contracts) ≡ list_all (fits l.domain) l.contracts;
  value : l.is_lacking ≡ false → l.rows.items ++ least l.domain (drop l.contract-index l.contracts) ≡ least l.domain l.contracts;
}
