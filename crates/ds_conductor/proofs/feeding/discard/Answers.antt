use Rattle.std.proofs.Common.{◌++◌, ◌∷◌, [], length-append, append_assoc, append-nil, refl, sym, ap, ◌∙◌, arith}
use Rattle.ds_conductor.proofs.feeding.discard.Goals as goal

pub loop-left-init : goal.loop-left-init
loop-left-init g c = record { lane = refl; more = ([], sym (append-nil c.args.taking.now.taken), omega arith) }

pub loop-left-preserved : goal.loop-left-preserved
loop-left-preserved g c =
    let was = c.loop-left.invariant in
    let text = c.receive-handed.result in record {
      lane = c.receive-handed.ensures.lane ∙ was.lane;
      more = (
        was.more.0 ++ text ∷ [],
        c.receive-handed.ensures.taken ∙ ap (λ it. it ++ text ∷ []) was.more.1 ∙ append_assoc c.args.taking.now.taken was.more.0 (text ∷ []),
        (let long = length-append was.more.0 (text ∷ []) in let n = was.more.2 in omega (arith, long, n)),
      );
    }

pub returns-clause-more : goal.returns-clause-more
returns-clause-more g c =
    let was = c.loop-left.invariant in (was.more.0, was.more.1, (let n = was.more.2 in omega (arith, n)))
