use Rattle.std.proofs.Common.{◌≡◌, [], ◌∷◌, ◌++◌, if◌then◌else◌, is_ok, List, length, nat_eq, ap, ◌∙◌}
use Rattle.ds_conditioner.specs.Helds.{HeldFramesValue}
use Rattle.ds_conditioner.specs.Queues.{held_between}
use Rattle.ds_conditioner.proofs.QueueLaws.{empty_by, left_out, moved, pushed, some_by, still_pushed}
use Rattle.ds_conditioner.proofs.held.HeldFrames.hold.Goals as goal

pub invariant_of-self-else-is_empty-2 : goal.invariant_of-self-else-is_empty-2
invariant_of-self-else-is_empty-2 c =
    let last = c.self.inside.last in
    let before = c.reserve.new.self.items in
    let put = c.replace-before.result in
    let there : c.push_back.new.self.items ≡ (if is_ok c.push_back.result then before ++ put ∷ [] else before) = c.push_back.ensures.items in
    let push : c.push_back.new.self.items ≡ c.self.inside.between.items ++ last ∷ [] =
    there ∙ ap (λ ok. if ok then before ++ put ∷ [] else before) (ap is_ok c.unwrap.ensures)
    ∙ ap (λ (ps : List HeldFramesValue). ps ++ put ∷ []) c.reserve.ensures.items ∙ ap (λ (h : HeldFramesValue). c.self.inside.between.items ++ h ∷ []) c.replace-before.ensures.value in
    still_pushed c.self.inside.first c.self.inside.between.items last c.args.self.now c.self.invariant c.self.view_is c.push_back.new.self.items push
    (some_by _ _ c.is_empty-2.ensures c.if-is_empty-2.false)
    (some_by (length last.held) _ (c.is_empty.ensures ∙ ap (λ (h : HeldFramesValue). nat_eq (length h.held) 0) c.replace-before.ensures.value) c.if-is_empty.false)

pub returns-then-is_empty-2-clause-held : goal.returns-then-is_empty-2-clause-held
returns-then-is_empty-2-clause-held c =
    let next = c.replace-before.new.dest in
    let fresh : next.held ≡ [] = ap (λ (h : HeldFramesValue). h.held) (c.replace-before.ensures.after ∙ c.in_ok-next.ensures) in
    ap (λ (h : HeldFramesValue). h.held ++ (held_between c.reserve.new.self.items ++ next.held)) c.replace-before.ensures.value
    ∙ ap (λ (ps : List HeldFramesValue). c.self.inside.last.held ++ (held_between ps ++ next.held)) c.reserve.ensures.items
    ∙ moved c.self.inside.first c.self.inside.between.items c.self.inside.last c.args.self.now c.self.invariant c.self.view_is (empty_by _ _ c.is_empty-2.ensures c.if-is_empty-2.true) next fresh

pub returns-else-is_empty-2-clause-held : goal.returns-else-is_empty-2-clause-held
returns-else-is_empty-2-clause-held c =
    let next = c.replace-before.new.dest in
    let fresh : next.held ≡ [] = ap (λ (h : HeldFramesValue). h.held) (c.replace-before.ensures.after ∙ c.in_ok-next.ensures) in
    let last = c.self.inside.last in
    let before = c.reserve.new.self.items in
    let put = c.replace-before.result in
    let there : c.push_back.new.self.items ≡ (if is_ok c.push_back.result then before ++ put ∷ [] else before) = c.push_back.ensures.items in
    let push : c.push_back.new.self.items ≡ c.self.inside.between.items ++ last ∷ [] =
    there ∙ ap (λ ok. if ok then before ++ put ∷ [] else before) (ap is_ok c.unwrap.ensures)
    ∙ ap (λ (ps : List HeldFramesValue). ps ++ put ∷ []) c.reserve.ensures.items ∙ ap (λ (h : HeldFramesValue). c.self.inside.between.items ++ h ∷ []) c.replace-before.ensures.value in
    pushed c.self.inside.first c.self.inside.between.items last c.args.self.now c.self.invariant c.self.view_is c.push_back.new.self.items push next fresh

pub returns-then-is_empty-clause-held : goal.returns-then-is_empty-clause-held
returns-then-is_empty-clause-held c =
    let next = c.replace-before.new.dest in
    let last = c.self.inside.last in
    let fresh : next.held ≡ [] = ap (λ (h : HeldFramesValue). h.held) (c.replace-before.ensures.after ∙ c.in_ok-next.ensures) in
    ap (λ (ps : List HeldFramesValue). c.self.inside.first.held ++ (held_between ps ++ next.held)) c.reserve.ensures.items
    ∙ left_out c.self.inside.first c.self.inside.between.items last c.args.self.now c.self.invariant c.self.view_is next fresh
    (empty_by (length last.held) _ (c.is_empty.ensures ∙ ap (λ (h : HeldFramesValue). nat_eq (length h.held) 0) c.replace-before.ensures.value) c.if-is_empty.true)
