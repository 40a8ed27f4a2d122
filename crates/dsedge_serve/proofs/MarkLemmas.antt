-- What workers leave behind, by how many were asked for.
use Rattle.std.proofs.Common.{◌≡◌, ℕ, List, Bool, true, false, Option, None, Some, Result, IfSome, nat_lt, inl, subst}
use Rattle.ds_checker.specs.Acceptance.{Table}
use Rattle.ds_conditioner.specs.declared.report.Report.{Report}
use Rattle.ds_conditioner.specs.declared.rule.RedRule.{RedRule}
use Rattle.ds_conductor.specs.Workings.{IsMarkedBeside, IsMarkedBy}
use Rattle.ds_marking.specs.declared.fault.MarkFault.{MarkFault}
use Rattle.dsedge_serve.specs.Marked.{is_sole}

-- what one worker leaves behind, several may leave behind
marked_beside : (sole : Bool) (t : Table) (port : List ℕ) (red : RedRule) (bytes more before after : List ℕ) (answer : Result Report (Report × MarkFault))
    → IsMarkedBy sole t port red bytes more before after answer → IsMarkedBeside t port red bytes more before after answer
marked_beside true t port red bytes more before after answer at = inl at
marked_beside false t port red bytes more before after answer at = at

-- what as many workers leave behind as are asked for, or any where that is left open
pub marked_for : (asked : Option ℕ) (workers : ℕ) (t : Table) (port : List ℕ) (red : RedRule) (bytes more before after : List ℕ) (answer : Result Report (Report × MarkFault))
    → IfSome asked (λ n. workers ≡ n) → IsMarkedBy (nat_lt workers 2) t port red bytes more before after answer
    → IsMarkedBy (is_sole asked) t port red bytes more before after answer
marked_for None workers t port red bytes more before after answer given at =
    marked_beside (nat_lt workers 2) t port red bytes more before after answer at
marked_for (Some n) workers t port red bytes more before after answer given at =
    let P : ℕ → Type 0 = λ k. IsMarkedBy (nat_lt k 2) t port red bytes more before after answer in subst P given at
