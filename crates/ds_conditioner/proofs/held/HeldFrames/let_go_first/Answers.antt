use Rattle.std.proofs.Common.{◌++◌, ap, subst, sym}
use Rattle.ds_conditioner.specs.Helds.{HeldFramesValue, IsLetGo}
use Rattle.ds_conditioner.specs.Queues.{AreHeld, held_between}
use Rattle.ds_conditioner.proofs.QueueLaws.{empty_by, taken}
use Rattle.ds_conditioner.proofs.held.HeldFrames.let_go_first.Goals as goal

pub invariant_of-self-then-is_empty-2 : goal.invariant_of-self-then-is_empty-2
invariant_of-self-then-is_empty-2 c =
    subst (λ (h : HeldFramesValue). AreHeld h c.pop_front.new.self.items) (sym c.replace-gone.ensures.after)
    (taken c.self.inside.first c.self.inside.between.items c.self.inside.last c.args.self.now c.self.invariant c.self.view_is
    c.let_go_first-2.new.self c.let_go_first-2.ensures (empty_by _ _ c.is_empty-2.ensures c.if-is_empty-2.true)
    c.nothing.result (ap (λ (h : HeldFramesValue). h.held) c.nothing.ensures)
    c.pop_front.result c.pop_front.new.self.items c.unwrap_or-next.result _ _ c.pop_front.ensures.items c.pop_front.ensures.cases c.self.inside.between.ok.0 c.unwrap_or-next.ensures).0

pub returns-then-is_empty-2 : goal.returns-then-is_empty-2
returns-then-is_empty-2 c =
    subst (λ (h : HeldFramesValue). IsLetGo c.args.self.now (record {
      held = h.held ++ (held_between c.pop_front.new.self.items ++ c.self.inside.last.held);
      ahead = c.self.inside.last.ahead;
    })) (sym c.replace-gone.ensures.after)
    (taken c.self.inside.first c.self.inside.between.items c.self.inside.last c.args.self.now c.self.invariant c.self.view_is
    c.let_go_first-2.new.self c.let_go_first-2.ensures (empty_by _ _ c.is_empty-2.ensures c.if-is_empty-2.true)
    c.nothing.result (ap (λ (h : HeldFramesValue). h.held) c.nothing.ensures)
    c.pop_front.result c.pop_front.new.self.items c.unwrap_or-next.result _ _ c.pop_front.ensures.items c.pop_front.ensures.cases c.self.inside.between.ok.0 c.unwrap_or-next.ensures).1
