use Rattle.std.proofs.Common.{None, Some, ap, refl, sym, ◌∙◌}
use Rattle.flow_classifier.specs.Kept.{rules_in}
use Rattle.flow_classifier.specs.Tables.{first_flow_of}
use Rattle.flow_classifier.proofs.TableLaws.{found_first, found_next}
use Rattle.flow_classifier.proofs.table.RuleTable.first_flow.Goals as goal

pub returns-in-Some : goal.returns-in-Some
returns-in-Some c =
    found_first c.self.inside.tuples (rules_in c.self.inside.groups.items) c.args.key.now (Some c.in-Some.flow) (sym c.in-Some.is ∙ c.first_flow.ensures) refl
    ∙ ap (λ all. first_flow_of all c.args.key.now) c.self.view_is

pub returns-in-None : goal.returns-in-None
returns-in-None c =
    c.first_in.ensures ∙ ap (λ groups. first_flow_of (rules_in groups) c.args.key.now) c.deref.ensures.value
    ∙ found_next c.self.inside.tuples (rules_in c.self.inside.groups.items) c.args.key.now None (sym c.in-None.is ∙ c.first_flow.ensures) refl
    ∙ ap (λ all. first_flow_of all c.args.key.now) c.self.view_is
