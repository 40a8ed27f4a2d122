-- What a crash leaves of a ledger.
use Rattle.std.proofs.Common.{◌≡◌, ◌⊎◌, ◌<◌, ◌++◌, List, length, IsTrue, Result, Ok, Err, OnOk, inl, inr, sym, subst, arith}
use Rattle.std.specs.List.Sorted.{IsPermutation}
use Rattle.std.proofs.lemmas.List.Elements.{All-append}
use Rattle.std.proofs.lemmas.List.Sorted.{IsPermutation-sym, IsPermutation-trans}
use Rattle.sqlite_trees.specs.Tree.{Trees}
use Rattle.sqlite.specs.State.{State, HasCleanDisk, Survives}
use Rattle.ds_broker.specs.declared.command.Command.{Command}
use Rattle.ds_ledger_base.specs.Lasting.{IsBehind, KeepsMore}
use Rattle.ds_ledger_rows.specs.Sound.{IsSound}
use Rattle.ds_ledger_table.specs.Rows.{rows_in}
use Rattle.ds_ledger.specs.Kept.{AreFound, IsTold, Keeps, MayKeep, MayLeave, Outlasts, Recovers, rows_of}
use Rattle.ds_ledger.specs.declared.ledger.End.{End}
use Rattle.ds_ledger.proofs.HistoryLaws.{one_history}

-- the rows of a database are those of one list of commands
pub one_found : (db : Trees) (a b : List Command) → AreFound db a → AreFound db b → a ≡ b
one_found db a b h k = one_history a b h.sound k.sound (IsPermutation-trans _ _ _ h.rows (IsPermutation-sym _ _ k.rows))

-- what is kept is what a crash leaves, where it leaves the last commit
pub outlasts : (s : State) (end : End) (history : List Command) → ((db : Trees) → s.may_leave db → db ≡ s.committed.trees) → Keeps s end history → Outlasts s history
outlasts s end history settled keeps db left =
    record { rows = subst (λ t. IsPermutation (rows_of history) (rows_in t)) (sym (settled db left)) keeps.rows.rows_are; sound = keeps.sound }

pub all_found : (s : State) (history found : List Command) → Outlasts s history → MayLeave s found → found ≡ history
all_found s history found whole left = one_found left.0 found history left.2 (whole left.0 left.1)

pub recovered : (s : State) (history : List Command) → Outlasts s history → Recovers s
recovered s history whole db left = (history, whole db left)

-- commands that were answered are found again
pub lasts : (old new : State) (before after : End) (commands found : List Command) → ((db : Trees) → new.may_leave db → db ≡ new.committed.trees)
    → KeepsMore (Keeps old before) (Keeps new after) commands → MayLeave new found → IsBehind (Keeps old before) commands found
lasts old new before after commands found settled more left history keeps =
    all_found new (history ++ commands) found (outlasts new after (history ++ commands) settled (more history keeps)) left

-- and so they are whatever an answer is of
pub all_last : {T E : Type 0} (r : Result T E) (old new : State) (before after : End) (commands : List Command)
    → ((db : Trees) → IsTrue new.is_open → new.may_leave db → db ≡ new.committed.trees) → (IsTold new → IsTold old) → HasCleanDisk new
    → OnOk r (0 < length commands → IsTrue new.is_open) → (IsTold new → OnOk r (KeepsMore (Keeps old before) (Keeps new after) commands))
    → OnOk r (0 < length commands → IsTold old × ((found : List Command) → MayLeave new found → IsBehind (Keeps old before) commands found))
all_last (Ok x) old new before after commands settled was clean stays more =
    λ some. let told : IsTold new = (clean, stays some) in (was told, λ found left. lasts old new before after commands found (λ db may. settled db (stays some) may) (more told) left)
all_last (Err e) old new before after commands settled was clean stays more = tt

-- all commands, where a crash left them on their way
abbrev all_kept : (old : State) (end : End) (commands history : List Command) (db : Trees) → MayKeep old end commands db → Keeps old end history → AreFound db (history ++ commands)
all_kept old end commands history db may keeps = record { rows = may.rows history keeps; sound = All-append IsSound history commands keeps.sound may.sound }

module _ (old new : State) (end : End) (commands : List Command) (survives : Survives old new (MayKeep old end commands)) (clean : HasCleanDisk new) where
  was_told : (db : Trees) → MayKeep old end commands db → IsTold old
  was_told db may = (omega (arith, survives.clean, clean), may.was_open)

  -- what was found before, or these commands too
  pub may_find : (found : List Command) → MayLeave new found → MayLeave old found ⊎ (IsTold old × IsBehind (Keeps old end) commands found)
  may_find found left = elim (survives.crash clean left.0 left.1) [
    | inl before ↦ inl (left.0, before, left.2)
    | inr may ↦ inr (was_told left.0 may, λ history keeps. one_found left.0 found (history ++ commands) left.2 (all_kept old end commands history left.0 may keeps))
  ]

  pub recovers : Recovers old → (IsTold old → (history : List Command) × Keeps old end history) → Recovers new
  recovers again kept db left = elim (survives.crash clean db left) [
    | inl before ↦ again db before
    | inr may ↦ let it = kept (was_told db may) in (it.0 ++ commands, all_kept old end commands it.0 db may it.1)
  ]
