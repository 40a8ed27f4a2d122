use Rattle.std.proofs.Common.{subst, is_some}
use Rattle.std.proofs.lemmas.Option.{IfSome_then}
use Rattle.ds_domain_base.specs.Parameters.{Parameters}
use Rattle.ds_quotes.specs.Fields.{AreThose, policed_with, terms_with}
use Rattle.ds_quotes.proofs.field.Field.values.Goals as goal

pub returns-in-Trusted-clause-some : goal.returns-in-Trusted-clause-some
unfolding terms_with
returns-in-Trusted-clause-some c =
    rw c.in-Trusted.is (IfSome_then c.trusted_values.result c.trusted_values.ensures.some (λ values those. those c.in-Trusted.committed))

pub returns-in-Policed-clause-some : goal.returns-in-Policed-clause-some
unfolding terms_with
returns-in-Policed-clause-some c =
    rw c.in-Policed.is (IfSome_then c.policed_values.result c.policed_values.ensures.some
    (λ values those. subst (λ (p : Parameters). AreThose values.least values.most (λ value. is_some (policed_with c.args.self value p c.in-Policed.mode)))
    c.get.ensures.value (those c.in-Policed.mode)))
