use Rattle.std.proofs.Common.{◌++◌, take, ap, sym, ◌∙◌, append_assoc}
use Rattle.ds_conditioner.specs.Stretches.{texts}
use Rattle.ds_conditioner.proofs.StretchLaws.{texts_more}
use Rattle.ds_conditioner.proofs.handed.Handed.add_to.Goals as goal

pub loop-stretch-preserved : goal.loop-stretch-preserved
loop-stretch-preserved c =
    let all = c.deref-stretch-items.result.now in
    let k = c.loop-stretch.stretch-index in
    let s = c.stretch-item.result in
    let out = c.args.out.now.items in
    c.in_ok-add_to.ensures ∙ ap (λ it. it ++ s.text) c.loop-stretch.invariant ∙ append_assoc out (texts (take k all)) s.text
    ∙ ap (λ it. out ++ it) (sym (texts_more all k s c.loop-stretch-test.true c.stretch-item.is))
