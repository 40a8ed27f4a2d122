use Rattle.std.proofs.Common.{ap, length, refl, sym, ◌∙◌, is_some}
use Rattle.std.proofs.lemmas.List.{length-map}
use Rattle.ds_checker.proofs.BesideLaws.{beside-first}
use Rattle.ds_checker.proofs.WalkLaws.{some-map}
use Rattle.ds_checker.proofs.beside.Beside.tried.Goals as goal

pub legs_refusal-requires-clause-level : goal.legs_refusal-requires-clause-level
legs_refusal-requires-clause-level c =
    ap length c.self.invariant.is_sums ∙ length-map c.self.inside.route.now.legs _ ∙ sym (ap length c.legs-legs.ensures.value)

pub returns-clause-first : goal.returns-clause-first
returns-clause-first c lifetime all =
    c.legs_refusal.ensures.first all
    ∙ beside-first c.self.inside.accepted.now c.self.inside.left_out c.self.inside.contract.now c.self.inside.route.now c.self.inside.sums c.self.inside.sums c.legs-legs.result.now
    c.domain-domain.result.now c.args.self.now c.args.terms.now lifetime c.along-source.result c.has_peak-has_peak.result c.self.view_is c.self.invariant c.legs-legs.ensures.kept
    c.domain-domain.ensures.value refl c.legs-legs.ensures.value c.along-source.ensures.value c.has_peak-has_peak.ensures c.meters-meters.ensures.kept.meters_differ

pub returns-clause-some : goal.returns-clause-some
returns-clause-some c lifetime =
    c.legs_refusal.ensures.some
    ∙ sym (some-map (λ f. f.1) _)
    ∙ ap is_some
    (beside-first c.self.inside.accepted.now c.self.inside.left_out c.self.inside.contract.now c.self.inside.route.now c.self.inside.sums c.self.inside.sums c.legs-legs.result.now
    c.domain-domain.result.now c.args.self.now c.args.terms.now lifetime c.along-source.result c.has_peak-has_peak.result c.self.view_is c.self.invariant c.legs-legs.ensures.kept
    c.domain-domain.ensures.value refl c.legs-legs.ensures.value c.along-source.ensures.value c.has_peak-has_peak.ensures c.meters-meters.ensures.kept.meters_differ)
