use Rattle.std.proofs.Common.{rules, ap}
use Rattle.ds_domain_base.specs.declared.contract.Contract.{Contract}
use Rattle.ds_domain_writing.proofs.SameLaws.{same_contract}
use Rattle.ds_domain_writing.proofs.same.ContractSame.is_same.Goals as goal

pub returns : goal.returns
returns c = (
  (λ same. same_contract _ _ (search rules) (search rules) (c.is_same_rule.ensures.0 same)),
  (λ is. c.is_same_rule.ensures.1 (ap (λ (k : Contract). k.rule) is)),
)
