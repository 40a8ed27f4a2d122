use Rattle.std.proofs.Common.{rules}
use Rattle.ds_domain_writing.proofs.SameLaws.{same_rule}
use Rattle.ds_domain_writing.proofs.same.is_same_rule.Goals as goal

pub returns : goal.returns
returns c =
    ((λ same. same_rule _ _ (search rules) (c.has_same_ports.ensures.0 same)), search rules)
