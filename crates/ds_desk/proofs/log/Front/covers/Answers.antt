use Rattle.std.proofs.Common.{◌≡◌, List, ap, length, nat_le, subst, sym, take, ◌∙◌}
use mathlib.Core.List.{IsPrefix}
use Rattle.ds_desk.specs.Acts.{history_in}
use Rattle.ds_desk.specs.declared.log.Act.{Act}
use Rattle.ds_desk.proofs.Courses.{covers_by}
use Rattle.ds_desk.proofs.log.Front.covers.Goals as goal

pub returns-clause-begins : goal.returns-clause-begins
returns-clause-begins g c =
    let both = c.learn.new.self.log in
    let mine : IsPrefix c.self.inside.seen.log both = subst (λ (l : List Act). IsPrefix l both) (ap (λ s. s.log) c.again-both.ensures) c.learn.ensures.2 in
    let own = length (history_in (take c.self.inside.acts c.self.inside.seen.log)) in
    let others = length (history_in (take c.other.inside.acts c.other.inside.seen.log)) in
    let test : nat_le others own ≡ nat_le c.get.result c.get-2.result =
    sym (ap (λ n. nat_le n c.get-2.result) (c.get.ensures ∙ c.other.invariant.1) ∙ ap (nat_le others) (c.get-2.ensures ∙ c.self.invariant.1)) in
    rw (← c.self.view_is, ← c.other.view_is)
    (covers_by c.self.inside.seen.log c.other.inside.seen.log both c.self.inside.acts c.other.inside.acts mine c.learn.ensures.3 (nat_le c.get.result c.get-2.result) test)
