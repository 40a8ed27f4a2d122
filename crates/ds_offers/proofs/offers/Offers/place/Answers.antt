use Rattle.std.proofs.Common.{sym, ap, position, ◌∙◌, bytes_eq}
use Rattle.ds_domain_base.specs.declared.contract.Contract.{Contract}
use Rattle.ds_offers.proofs.NameLaws.{no_place}
use Rattle.ds_offers.proofs.offers.Offers.place.Goals as goal

pub returns-in_err-name : goal.returns-in_err-name
returns-in_err-name c =
    c.from_residual.ensures ∙ sym (no_place c.self.inside.places.entries c.self.inside.contracts.items c.args.name.now c.self.invariant c.in_err-name.ensures)
    ∙ ap (position (λ (d : Contract). bytes_eq c.args.name.now d.name)) c.self.view_is
