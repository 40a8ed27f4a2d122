-- How rows come to the table one by one.
use Rattle.std.proofs.Common.{◌≡◌, ◌++◌, ℕ, List, [], ◌∷◌, false, IsTrue, Ok, sym, ap, subst, ◌∙◌, append_assoc, append-nil}
use Rattle.std.specs.List.Sorted.{IsPermutation}
use Rattle.std.proofs.lemmas.List.Sorted.{IsPermutation-append_left, IsPermutation-trans}
use Rattle.sqlite.specs.Order.{Row}
use Rattle.sqlite.specs.Tree.{Trees}
use Rattle.sqlite.specs.Effect.{Database}
use Rattle.sqlite.specs.State.{State, ExecutesInside, KeepsCommit, Shows}
use Rattle.ds_ledger_table.specs.Form.{ledger_schema, insert_text}
use Rattle.ds_ledger_table.specs.Rows.{rows_in, Holds, Adds, IsAppended, MayAppend, IsRow}
use Rattle.ds_ledger_table.proofs.InsertLemmas.{inserts}

pub adds_more : (a b c : State) (rows : List Row) (row : Row) (count : ℕ) → Adds a b rows → IsRow row → ExecutesInside 0 insert_text row b c (Ok count) → Adds a c (rows ++ row ∷ [])
adds_more a b c rows row count adds fits ran =
    let got = inserts b c row count adds.schema fits ran.0 in
    let more = IsPermutation-append_left (row ∷ []) _ _ adds.added in
    let all = IsPermutation-trans _ _ _ more got.1 in
    record {
      committed = ran.1.committed_is ∙ adds.committed;
      mode = ran.1.mode;
      schema = got.0;
      added = subst (λ (l : List Row). IsPermutation l (rows_in c.now.trees)) (append_assoc (rows_in a.now.trees) rows (row ∷ [])) all;
    }

pub keeps_then : (a b c : State) → KeepsCommit a b → KeepsCommit b c → KeepsCommit a c
keeps_then a b c first then = record {
  was_open = λ now. first.was_open (then.was_open now);
  committed = λ now. then.committed now ∙ first.committed (then.was_open now);
}

-- Rows were added within a transaction, which begins as the last commit stands.
module _ (old begun last : State) (rows : List Row) (now_is : begun.now ≡ old.now) (open_is : begun.is_open ≡ old.is_open) (settled : IsTrue old.is_open → old.now ≡ old.committed)
    (kept : KeepsCommit begun last) (ran : begun.now.schema ≡ ledger_schema → Adds begun last rows) where
  holds_more : (before : List Row) → IsTrue old.is_open → Holds old.committed before → Holds last.now (before ++ rows)
  holds_more before is_open holds =
      let same = now_is ∙ settled is_open in
      let adds = ran (ap (λ (d : Database). d.schema) same ∙ holds.schema) in
      let front : IsPermutation before (rows_in begun.now.trees) = subst (λ (d : Database). IsPermutation before (rows_in d.trees)) (sym same) holds.rows_are in
      record { schema = adds.schema; rows_are = IsPermutation-trans _ _ _ (IsPermutation-append_left rows _ _ front) adds.added }

  pub appended : (new : State) → Shows last new last.now last.now false → IsAppended old new rows
  appended new shows =
      let was : IsTrue old.is_open = subst IsTrue open_is (kept.was_open shows.was_open) in
      record {
        was_open = λ _. was;
        is_open = λ _. shows.is_open;
        kept = λ before _ holds. subst (λ (d : Database). Holds d (before ++ rows)) (sym shows.committed_is) (holds_more before was holds);
      }

  pub may_append : IsTrue old.is_open → (db : Trees) → db ≡ last.now.trees → MayAppend old rows db
  may_append is_open db same =
      record { was_open = is_open; whole = λ before holds. subst (λ (t : Trees). IsPermutation (before ++ rows) (rows_in t)) (sym same) (holds_more before is_open holds).rows_are }

pub none_appended : (s : State) → IsAppended s s []
none_appended s = record { was_open = λ now. now; is_open = λ now. now; kept = λ before now holds. subst (Holds s.committed) (sym (append-nil before)) holds }
