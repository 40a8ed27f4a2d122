use Rattle.std.proofs.Common.{◌++◌}
use Rattle.std.proofs.lemmas.Result.{IfOk-weaker}
use Rattle.ds_conditioner.specs.Queues.{held_between}
use Rattle.ds_conditioner.proofs.QueueLaws.{same_held, some_by}
use Rattle.ds_conditioner.proofs.StretchLaws.{is_begun}
use Rattle.ds_conditioner.proofs.held.HeldFrames.stretch.Goals as goal

pub returns : goal.returns
returns c =
    let first = c.self.inside.first in
    let last = c.self.inside.last in
    let others = c.self.inside.between.items in
    IfOk-weaker c.stretch-2.result _ _ (λ s is.
    is_begun c.args.self.now.held first.held (held_between others ++ last.held) s (same_held first others last c.args.self.now c.self.invariant c.self.view_is)
    (some_by _ _ c.is_empty.ensures c.if-is_empty.false) is) c.stretch-2.ensures
