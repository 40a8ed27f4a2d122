-- How a database is given the form of a ledger's.
use Rattle.std.proofs.Common.{◌≡◌, ◌≢◌, ℕ, pos, List, [], ◌∷◌, map, codes, false, None, Ok, IsTrue, refl, sym, ap, subst, ◌∙◌, arith}
use Rattle.std.specs.List.Sorted.{IsPermutation}
use Rattle.std.proofs.lemmas.List.Sorted.{IsPermutation-refl}
use Rattle.sqlite.specs.declared.types.Value.TheVariants.{Null, Int}
use Rattle.sqlite.specs.Term.{Term, lit}
use Rattle.sqlite.specs.Source.TheVariants.{Values}
use Rattle.sqlite.specs.Table.{Table}
use Rattle.sqlite.specs.Schema.{Schema}
use Rattle.sqlite.specs.Compile.{table_defined_by, view_defined_by}
use Rattle.sqlite.specs.Command.TheVariants.{Insert, CreateTable, CreateView}
use Rattle.sqlite.specs.Change.{created, next_tree, with_view, KeepsRows}
use Rattle.sqlite.specs.Does.{Tally, Does, lacks_sequence}
use Rattle.sqlite.specs.Rows.{Written}
use Rattle.sqlite.specs.Edit.{edit_of}
use Rattle.sqlite.specs.Rowids.TheVariants.{Chosen}
use Rattle.sqlite.specs.Tree.{Trees}
use Rattle.sqlite.specs.Effect.{Database}
use Rattle.sqlite.specs.Listing.{understood}
use Rattle.sqlite.specs.State.{State, mode_of, Writes, Executes, Shows}
use Rattle.sqlite_tied.specs.Compute.{everything}
use Rattle.sqlite.proofs.Callers.{IsPlain, command_of, statement_of, runs_as, one_step}
use Rattle.ds_ledger_table.specs.Form.{no_schema, ledger_schema, command_table, form_table, table_text, form_text, view_text, version_text, version_query}
use Rattle.ds_ledger_table.specs.Rows.{shown, rows_in, Makes, IsMade}
use Rattle.ds_ledger_table.proofs.InsertLemmas.{went, same_value}

-- the form on its way
abbrev first_schema : Schema
first_schema = record { tables = command_table ∷ []; indexes = []; views = [] }

abbrev second_schema : Schema
second_schema = record { tables = command_table ∷ form_table ∷ []; indexes = []; views = [] }

module _ (text : List ℕ) (before : Schema) (table : Table) (is : (command_of (understood before text) ≡ CreateTable) × (statement_of text (understood before text) ≡ text))
    (defined : table_defined_by text ≡ Ok table) (plain : IsPlain (understood before text)) (lacks : lacks_sequence (created before table) ≡ false) where
  creates : (old new : State) (count : ℕ) → old.now.schema ≡ before → Executes text [] old new (Ok count)
      → (new.now.schema ≡ created before table) × (new.now.trees (next_tree before) ≡ []) × KeepsRows before.tables old.now.trees new.now.trees
  creates old new count has h =
      let w = subst (λ t. Writes old new None CreateTable t [] count) is.1 (runs_as text [] old new before has CreateTable is.0 plain count h) in
      let all = went w.changed in
      let first = went all.1 in
      let made = first.1 in
      let both : Ok made.table ≡ Ok table = sym made.defined ∙ defined in
      let same : made.table ≡ table = cc in
      let schema : first.0.schema ≡ created before table = made.is ∙ ap (λ s. created s made.table) has ∙ ap (created before) same in
      let bare : lacks_sequence first.0.schema ≡ false = ap lacks_sequence schema ∙ lacks in
      let now : new.now ≡ first.0 = ap (λ (p : Tally × Database). p.1) (same_value all.2) ∙ same_value (rw bare at first.2) in (
        ap (λ (d : Database). d.schema) now ∙ schema,
        ap (λ (d : Database). d.trees (next_tree before)) now ∙ subst (λ s. first.0.trees (next_tree s) ≡ []) has made.empty,
        subst (λ (d : Database). KeepsRows before.tables old.now.trees d.trees) (sym now) (subst (λ (s : Schema). KeepsRows s.tables old.now.trees first.0.trees) has made.others),
      )

command_is : (command_of (understood no_schema table_text) ≡ CreateTable) × (statement_of table_text (understood no_schema table_text) ≡ table_text)
unfolding understood everything
command_is = (refl, refl)

command_defined : table_defined_by table_text ≡ Ok command_table
unfolding understood everything
command_defined = refl

command_plain : IsPlain (understood no_schema table_text)
unfolding understood everything
command_plain = (refl, refl)

form_is : (command_of (understood first_schema form_text) ≡ CreateTable) × (statement_of form_text (understood first_schema form_text) ≡ form_text)
unfolding understood everything
form_is = (refl, refl)

form_defined : table_defined_by form_text ≡ Ok (record form_table { tree = 0 })
unfolding understood everything
form_defined = refl

form_plain : IsPlain (understood first_schema form_text)
unfolding understood everything
form_plain = (refl, refl)

held_is : (command_of (understood second_schema view_text) ≡ CreateView) × (statement_of view_text (understood second_schema view_text) ≡ view_text)
unfolding understood everything
held_is = (refl, refl)

held_defined : view_defined_by view_text ≡ Ok (codes "held")
unfolding understood everything
held_defined = refl

held_plain : IsPlain (understood second_schema view_text)
unfolding understood everything
held_plain = (refl, refl)

abbrev version_terms : List Term
version_terms = lit (Int (pos 1)) ∷ lit Null ∷ []

version_is : command_of (understood ledger_schema version_text) ≡ Insert 1 (Values version_terms 2)
unfolding understood everything
version_is = refl

version_plain : IsPlain (understood ledger_schema version_text)
unfolding understood everything
version_plain = (refl, refl)

creates_view : (old new : State) (count : ℕ) → old.now.schema ≡ second_schema → Executes view_text [] old new (Ok count)
    → (new.now.schema ≡ ledger_schema) × (new.now.trees 0 ≡ old.now.trees 0)
creates_view old new count has h =
    let w = subst (λ t. Writes old new None CreateView t [] count) held_is.1 (runs_as view_text [] old new second_schema has CreateView held_is.0 held_plain count h) in
    let all = went w.changed in
    let made = all.1 in
    let both : Ok made.name ≡ Ok (codes "held") = sym made.defined ∙ held_defined in
    let same : made.name ≡ codes "held" = cc in
    let now : new.now ≡ all.0 = ap (λ (p : Tally × Database). p.1) (same_value all.2) in
    let with : Schema → List ℕ → Schema = λ s name. with_view s (record { name = name; tree = next_tree s; sql = view_text; foreign = None; binds = false; is_bound = false }) in
    let schema : all.0.schema ≡ ledger_schema = made.is ∙ ap (λ s. with s made.name) has ∙ ap (with second_schema) same in
    let rows : KeepsRows second_schema.tables old.now.trees all.0.trees = subst (λ (s : Schema). KeepsRows s.tables old.now.trees all.0.trees) has made.rows in
    (ap (λ (d : Database). d.schema) now ∙ schema, ap (λ (d : Database). d.trees 0) now ∙ rows.0)

adds_version : (old new : State) (count : ℕ) → old.now.schema ≡ ledger_schema → Executes version_text [] old new (Ok count)
    → (new.now.schema ≡ ledger_schema) × (new.now.trees 0 ≡ old.now.trees 0)
adds_version old new count has h =
    let db = old.now.trees in
    let command = Insert 1 (Values version_terms 2) in
    let w = runs_as version_text [] old new ledger_schema has command version_is version_plain count h in
    let text = statement_of version_text (understood ledger_schema version_text) in
    let done = went (subst (λ s. Does old.step_limit (mode_of old) [] (record old.now { schema = s }) text None command (Ok (w.tally, new.now))) has w.changed) in
    let now = ap (λ (p : Tally × Database). p.1) (same_value (went (went done.2).2).2) in
    let given = went done.1 in
    let written = went (went given.2).2 in
    let counted = went written.2 in
    let trees : done.0.trees ≡ written.0 = ap (λ (it : Written). it.trees) (same_value counted.2) ∙ same_value counted.1 in
    let step = one_step ledger_schema _ db written.0 (edit_of db form_table [] Chosen 0 given.0) refl written.1 in
    let other : 0 ≢ 1 = λ e. omega (arith, e) in
    (ap (λ (d : Database). d.schema) now, ap (λ (d : Database). d.trees 0) now ∙ ap (λ (t : Trees). t 0) trees ∙ step.tables.0 other)

-- the form of a ledger's, made of nothing by these four statements, has no row
module _ (a b c d e : State) (blank : a.now.schema ≡ no_schema) where
  pub defines : (p q r s : ℕ) → Executes table_text [] a b (Ok p) → Executes form_text [] b c (Ok q) → Executes view_text [] c d (Ok r) → Executes version_text [] d e (Ok s)
      → (e.now.schema ≡ ledger_schema) × (e.now.trees 0 ≡ [])
  defines p q r s one two three four =
      let first = creates table_text no_schema command_table command_is command_defined command_plain refl a b p blank one in
      let second = creates form_text first_schema (record form_table { tree = 0 }) form_is form_defined form_plain refl b c q first.0 two in
      let third = creates_view c d r second.0 three in
      let fourth = adds_version d e s third.0 four in
      (fourth.0, fourth.1 ∙ third.1 ∙ second.2.0 ∙ first.1)

-- The form was made within a transaction, which begins as the last commit stands.
module _ (old begun last : State) (now_is : begun.now ≡ old.now) (open_is : begun.is_open ≡ old.is_open) (settled : IsTrue old.is_open → old.now ≡ old.committed)
    (blank : old.now.schema ≡ no_schema) (makes : Makes begun last) where
  made_last : (last.now.schema ≡ ledger_schema) × (last.now.trees 0 ≡ [])
  made_last = makes.made (ap (λ (d : Database). d.schema) now_is ∙ blank)

  pub no_rows : (db : Trees) → db ≡ last.now.trees → rows_in db ≡ []
  no_rows db same = ap rows_in same ∙ ap (map shown) made_last.1

  pub made_of : (new : State) → Shows last new last.now last.now false → IsMade old new
  made_of new shows =
      let was : IsTrue old.is_open = subst IsTrue open_is makes.was_open in
      let rows : rows_in new.committed.trees ≡ [] = ap (λ (d : Database). rows_in d.trees) shows.committed_is ∙ no_rows last.now.trees refl in
      record {
        was_open = was;
        is_open = shows.is_open;
        blank = ap (λ (d : Database). d.schema) (sym (settled was)) ∙ blank;
        made = record { schema = ap (λ (d : Database). d.schema) shows.committed_is ∙ made_last.0; rows_are = subst (IsPermutation []) (sym rows) (IsPermutation-refl []) };
      }

pub query_plain : IsPlain (understood ledger_schema version_query)
unfolding understood everything
query_plain = (refl, refl)
