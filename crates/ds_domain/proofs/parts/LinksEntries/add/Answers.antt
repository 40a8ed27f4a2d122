use Rattle.std.proofs.Common.{◌≡◌, ◌⊎◌, Some, Err, inl, inr, rules}
use Rattle.std.proofs.lemmas.Result.{IfErr-weaker}
use Rattle.toml.specs.View.{table_view}
use Rattle.ds_domain_base.specs.Domains.{link_fault}
use Rattle.ds_domain_base.specs.Faults.{no_memory}
use Rattle.ds_domain.specs.Keys.{has_only, only, text_at}
use Rattle.ds_domain.specs.Parts.{with_link_of}
use Rattle.ds_domain.proofs.parts.LinksEntries.add.Goals as goal

pub returns-clause-refused : goal.returns-clause-refused
unfolding with_link_of only has_only text_at
returns-clause-refused c =
    IfErr-weaker c.add_link.result _ _ (λ fault refused. elim refused as (λ _. (fault ≡ no_memory) ⊎ (with_link_of c.args.domain.now (table_view c.args.table.now) ≡ Err fault)) [
      | inl memory ↦ inl memory
      | inr told ↦ inr (let stood : link_fault c.args.domain.now c.in_ok-from.from.now c.in_ok-to.to.now ≡ Some fault = told in search rules)
    ]) c.add_link.ensures.refused
