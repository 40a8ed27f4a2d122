use Rattle.std.proofs.Common.{ap, length, refl, sym, ◌∙◌}
use Rattle.std.proofs.lemmas.List.{length-map}
use Rattle.ds_checker.proofs.GrowthLaws.{beside-growths, beside-offered}
use Rattle.ds_checker.proofs.beside.Beside.growths.Goals as goal

pub growths_along-requires-clause-level : goal.growths_along-requires-clause-level
growths_along-requires-clause-level c =
    ap length c.self.invariant.is_sums ∙ length-map c.self.inside.route.now.legs _ ∙ sym (ap length c.legs-legs.ensures.value)

pub returns : goal.returns
returns c = record {
  value = c.growths_along.ensures
      ∙ beside-growths c.self.inside.accepted.now c.self.inside.left_out c.self.inside.contract.now c.self.inside.route.now c.self.inside.sums c.self.inside.sums c.legs-legs.result.now
      c.domain-domain.result.now c.args.self.now c.along-entered.result c.has_peak.result c.self.view_is c.self.invariant c.domain-domain.ensures.value refl c.legs-legs.ensures.value
      c.along-entered.ensures.value c.has_peak.ensures;
  offered = beside-offered c.self.inside.accepted.now c.self.inside.left_out c.self.inside.contract.now c.self.inside.route.now c.self.inside.sums c.domain-domain.result.now
      c.args.self.now c.along-entered.result c.self.view_is c.self.invariant c.legs-legs.ensures.kept c.domain-domain.ensures.value c.meters-meters.ensures.kept.meters_differ
      c.along-entered.ensures.value c.along-entered.ensures.least.0;
}
