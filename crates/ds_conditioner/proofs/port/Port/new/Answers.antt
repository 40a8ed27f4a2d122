use Rattle.std.proofs.Common.{ap, ◌∙◌}
use Rattle.ds_domain_base.specs.Domains.{Domain}
use Rattle.frame_marker.specs.Ports.{sight_in}
use Rattle.ds_conditioner.proofs.AheadLaws.{rules_ahead, rules_see}
use Rattle.ds_conditioner.proofs.port.Port.new.Goals as goal

pub invariant_of-result : goal.invariant_of-result
invariant_of-result c = record {
  holds = rules_ahead c.args.accepted.now c.args.name (sight_in c.in_ok-classifier.classifier) c.head_start-ahead.result
      (rules_see c.args.accepted.now c.version-version.result c.contracts.result.now c.args.name c.in_ok-classifier.classifier
      (c.version-version.ensures ∙ ap (λ (d : Domain). d.version) c.domain.ensures.value) c.contracts.ensures.value c.in_ok-classifier.ensures)
      c.head_start-ahead.ensures.holds;
}

pub returns-clause-sees : goal.returns-clause-sees
returns-clause-sees c =
    rules_see c.args.accepted.now c.version-version.result c.contracts.result.now c.args.name c.in_ok-classifier.classifier
    (c.version-version.ensures ∙ ap (λ (d : Domain). d.version) c.domain.ensures.value) c.contracts.ensures.value c.in_ok-classifier.ensures
