use Rattle.std.proofs.Common.{ap, is_some, ◌∙◌, bytes_eq}
use Rattle.ds_domain_base.specs.declared.contract.Contract.{Contract}
use Rattle.ds_offers.specs.Offered.{has_name}
use Rattle.ds_offers.proofs.NameLaws.{is_some-position}
use Rattle.ds_offers.proofs.offers.Offers.has_name.Goals as goal

pub returns : goal.returns
returns c =
    c.contains_key.ensures ∙ ap is_some (c.self.invariant.placed c.args.name)
    ∙ is_some-position (λ (d : Contract). bytes_eq c.args.name d.name) c.self.inside.contracts.items
    ∙ ap (λ contracts. has_name contracts c.args.name) c.self.view_is
