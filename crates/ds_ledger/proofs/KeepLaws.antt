-- What a ledger keeps once rows were committed.
use Rattle.std.proofs.Common.{◌≡◌, List, [], ◌++◌, All, IsTrue, sym, ap, subst, ◌∙◌}
use Rattle.std.specs.List.Sorted.{IsPermutation}
use Rattle.std.proofs.lemmas.List.Elements.{All-append}
use Rattle.sqlite_value.specs.Order.{Row}
use Rattle.sqlite_trees.specs.Tree.{Trees}
use Rattle.sqlite.specs.Effect.{Database}
use Rattle.sqlite.specs.State.{State, KeepsCommit}
use Rattle.ds_broker.specs.declared.command.Command.{Command}
use Rattle.ds_ledger_rows.specs.Sound.{IsSound}
use Rattle.ds_ledger_table.specs.Rows.{Holds, IsAppended, MayAppend, rows_in}
use Rattle.ds_ledger.specs.Kept.{Keeps, MayKeep, end_after, end_of, rows_from, rows_of}
use Rattle.ds_ledger.specs.declared.ledger.End.{End}
use Rattle.ds_ledger.proofs.RowLaws.{rows_behind-append, rows_by_end, end_behind_all}

module _ (end : End) (commands history : List Command) (counted : end ≡ end_of history) where
  rows_more : rows_of history ++ rows_from end commands ≡ rows_of (history ++ commands)
  rows_more =
      ap (λ (e : End). rows_of history ++ rows_from e commands) counted
      ∙ sym (rows_behind-append [] history commands ∙ ap (λ (rows : List Row). rows_of history ++ rows) (rows_by_end history commands))

  end_more : end_after end commands ≡ end_of (history ++ commands)
  end_more = ap (λ (e : End). end_after e commands) counted ∙ end_behind_all history commands

pub keeps_more : (old new : State) (end : End) (commands history : List Command) → IsAppended old new (rows_from end commands) → All IsSound commands → IsTrue new.is_open → Keeps old end history
    → Keeps new (end_after end commands) (history ++ commands)
keeps_more old new end commands history appended sound is_open keeps = record {
  rows = subst (Holds new.committed) (rows_more end commands history keeps.counted) (appended.kept (rows_of history) is_open keeps.rows);
  counted = end_more end commands history keeps.counted;
  sound = All-append IsSound history commands keeps.sound sound;
}

pub keeps_same : (old new : State) (end : End) (history : List Command) → KeepsCommit old new → IsTrue new.is_open → Keeps old end history → Keeps new end history
keeps_same old new end history same is_open keeps = record {
  rows = subst (λ (d : Database). Holds d (rows_of history)) (sym (same.committed is_open)) keeps.rows;
  counted = keeps.counted;
  sound = keeps.sound;
}

pub may_keep : (old : State) (end : End) (commands : List Command) (db : Trees) → All IsSound commands → MayAppend old (rows_from end commands) db → MayKeep old end commands db
may_keep old end commands db sound may = record {
  was_open = may.was_open;
  sound = sound;
  rows = λ history keeps. subst (λ (rows : List Row). IsPermutation rows (rows_in db)) (rows_more end commands history keeps.counted) (may.whole (rows_of history) keeps.rows);
}
