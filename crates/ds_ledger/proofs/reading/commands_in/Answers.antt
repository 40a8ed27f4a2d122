use Rattle.std.proofs.Common.{◌≡◌, List, [], ◌∷◌, ◌++◌, All, refl, sym, ap, subst, ◌∙◌, rules, arith}
use Rattle.std.specs.List.Sorted.{IsPermutation}
use Rattle.std.proofs.lemmas.List.Sorted.{IsPermutation-sym}
use Rattle.std.proofs.lemmas.List.Elements.{All-push}
use Rattle.sqlite_value.specs.Order.{Row}
use Rattle.sqlite.specs.Effect.{Database}
use Rattle.sqlite.specs.State.{State, HasCleanDisk, Survives, CommitsShowing}
use Rattle.sqlite.specs.Held.{state}
use Rattle.sqlite.proofs.StateLemmas.{survives_weaker, survives_then}
use Rattle.sqlite.proofs.Callers.{begun_plain, never_commits, unchanged_then}
use Rattle.sqlite.specs.Given.{HasGiven}
use Rattle.ds_ledger.specs.declared.ledger.End.{End}
use Rattle.ds_ledger_rows.specs.Sound.{IsSound}
use Rattle.ds_ledger_table.specs.Form.{ledger_schema, select_text}
use Rattle.ds_ledger_table.specs.Rows.{rows_in}
use Rattle.ds_ledger_table.proofs.SelectLemmas.{plain_in, selects}
use Rattle.ds_ledger.specs.Kept.{end_after, next_end, row_at, rows_from, rows_of}
use Rattle.ds_ledger.proofs.RowLaws.{start, rows_from-push, end_after-push, rows_of_all, end_of_all}
use Rattle.ds_ledger.proofs.reading.commands_in.Goals as goal

commits_nothing : (old new : State) → (HasCleanDisk old → old.now.schema ≡ ledger_schema) → Survives old new (CommitsShowing select_text [] old) → Survives old new (λ _. ⊥)
commits_nothing old new has kept =
    survives_weaker old new _ _ (λ clean db h. let was : HasCleanDisk old = omega (arith, kept.clean) in never_commits select_text [] old db (plain_in old (has was)) h) kept

pub returns-in_err-rows-clause-crash : goal.returns-in_err-rows-clause-crash
returns-in_err-rows-clause-crash g c =
    let old = state g.S.Store c.args.conn.now in
    let new = state g.S.Store c.query.follows.lender-at-none in
    let held = c.query.follows.holds-at-none in
    let kept : Survives old new (CommitsShowing select_text [] old) = search rules in
    commits_nothing old new c.requires kept

pub rows-init : goal.rows-init
rows-init g c =
    let old = state g.S.Store c.args.conn.now in
    let made = c.in_ok-rows.ensures in
    let none = c.new-found.ensures.none in
    record {
      same = refl;
      survives = commits_nothing _ _ c.requires made.survives;
      given = λ clean.
          let was : HasCleanDisk old = omega (arith, made.survives.clean) in
          rw none (begun_plain g.S.Store select_text [] c.args.conn.now _ (plain_in old (c.requires was)) (made.begun clean));
      end = rw none c.new-found.ensures.end;
      sound = subst (All IsSound) (sym none) (λ i d low. absurd (omega arith));
    }

pub rows-preserved : goal.rows-preserved
rows-preserved g c =
    let own = c.rows.invariant in
    let first = state g.S.Store c.args.conn.now in
    let mid = state g.S.Store c.rows.rows.conn.now in
    let moved = c.next.follows.holds-at-none in
    let after = c.next.follows.lender-at-none.conn.now in
    let now = state g.S.Store after in
    let read = c.in_ok-add.ensures.read in
    let commands = c.rows.found.commands.items in
    let given = rows_from start commands in
    let row : row_at (end_after start commands) read.command ≡ c.in-Some.row.now = sym (read.row_is ∙ ap (λ (e : End). row_at e read.command) own.end) in
    let rows : rows_from start c.add.new.self.commands.items ≡ given ++ c.in-Some.row.now ∷ [] =
    ap (rows_from start) read.read ∙ rows_from-push start commands read.command ∙ ap (λ (r : Row). given ++ r ∷ []) row in
    record {
      same = moved.same_reference ∙ own.same;
      survives = survives_then first mid now _ _ _ (λ _ db none. none) (λ _ db none. none) own.survives moved.survives;
      given = λ clean.
          let between : HasCleanDisk mid = omega (arith, moved.survives.clean) in
          let was = own.given between in
          let more = (rw (c.in_ok-row.was, c.in-Some.is) at (moved.ok clean)) select_text [] given was.0 in
          (subst (HasGiven g.S.Store select_text [] after) (sym rows) more, unchanged_then first mid now was.1 (rw c.in_ok-row.was at (moved.same clean)));
      end = read.next_is ∙ ap (λ (e : End). next_end e read.command) own.end ∙ sym (end_after-push start commands read.command) ∙ ap (end_after start) (sym read.read);
      sound = subst (All IsSound) (sym read.read) (All-push IsSound commands read.command own.sound read.sound);
    }

pub returns-in_default-clause-rows : goal.returns-in_default-clause-rows
returns-in_default-clause-rows g c clean =
    let old = state g.S.Store c.args.conn.now in
    let mid = state g.S.Store c.rows.rows.conn.now in
    let moved = c.next.follows.holds-at-none in
    let now = state g.S.Store c.next.follows.lender-at-none.conn.now in
    let late : HasCleanDisk now = search rules in
    let between : HasCleanDisk mid = omega (arith, moved.survives.clean) in
    let early : HasCleanDisk old = omega (arith, c.rows.invariant.survives.clean) in
    let was = c.rows.invariant.given between in
    let commands = c.rows.found.commands.items in
    let shown = (rw (c.in_ok-row.was, c.in_default.is) at (moved.ok late)) select_text [] (rows_from start commands) was.0 in
    let schema : mid.now.schema ≡ ledger_schema = ap (λ (d : Database). d.schema) was.1.0.now_is ∙ c.requires early in
    let all = selects mid now (rows_from start commands) schema shown in
    let same : rows_in mid.now.trees ≡ rows_in old.now.trees = ap (λ (d : Database). rows_in d.trees) was.1.0.now_is in
    subst (λ (l : List Row). IsPermutation (rows_of commands) l) same (subst (λ (l : List Row). IsPermutation l (rows_in mid.now.trees)) (sym (rows_of_all commands)) (IsPermutation-sym _ _ all))

pub returns-in_default-clause-end : goal.returns-in_default-clause-end
returns-in_default-clause-end g c = c.rows.invariant.end ∙ end_of_all c.rows.found.commands.items
