use Rattle.std.proofs.Common.{◌<◌, ◌∷◌, [], ◌++◌, ◌-◌, append_assoc, length, set, ap, sym, ◌∙◌, arith, vec_len}
use Rattle.flow_classifier.specs.Kept.{rules_in}
use Rattle.flow_classifier.proofs.TableLaws.{grown_last, ok_then}
use Rattle.flow_classifier.proofs.table.RuleTable.push.Goals as goal

pub returns-in-Some-clause-pushed : goal.returns-in-Some-clause-pushed
returns-in-Some-clause-pushed c =
    let settled = c.self.inside.tuples in
    let groups = c.self.inside.groups.items in
    let place = vec_len c.self.inside.groups - 1 in
    let item = c.in-Some.ensures.item in
    let some : 0 < length groups = item.3.0 in
    ok_then c.push.result (λ grown.
    ap (λ group. settled ++ rules_in (set groups place group)) grown
    ∙ ap (λ all. settled ++ all) (grown_last groups place c.in-Some.group.now c.args.row (omega (arith, some)) item.1)
    ∙ sym (append_assoc settled (rules_in groups) (c.args.row ∷ []))
    ∙ ap (λ all. all ++ c.args.row ∷ []) c.self.view_is) c.push.ensures.pushed
