-- What the insertion of a row makes of a database.
use Rattle.std.proofs.Common.{◌≡◌, ◌⊎◌, inl, inr, ℕ, List, [], ◌∷◌, ◌++◌, map, length, drop, Bool, true, false, not, IsTrue, None, Ok, Err, Result, refl, sym, ap, subst, subst₂, ◌∙◌, ◌&&◌, cond, append-nil, arith}
use Rattle.std.specs.List.{range_with_len}
use Rattle.std.specs.List.Sorted.{IsPermutation}
use Rattle.std.proofs.lemmas.Bool.{and_parts}
use Rattle.std.proofs.lemmas.List.{take_all, map-append}
use Rattle.std.proofs.lemmas.List.Sorted.{IsPermutation-map}
use Rattle.sqlite.specs.declared.types.Value.{Value}
use Rattle.sqlite.specs.declared.types.Value.TheVariants.{Null, Int, Real, Text, Blob}
use Rattle.sqlite.specs.Order.{Row, column}
use Rattle.sqlite.specs.Source.TheVariants.{Values}
use Rattle.sqlite.specs.Command.TheVariants.{Insert}
use Rattle.sqlite.specs.Edit.{edit_of, numbered, is_taken, are_fresh, put_all}
use Rattle.sqlite.specs.Cast.{cast_row, cast_all, cast}
use Rattle.sqlite_schema.specs.declared.schema.Column.{Column}
use Rattle.sqlite.specs.Rowids.TheVariants.{Chosen}
use Rattle.sqlite.specs.Ops.{is_null}
use Rattle.sqlite.specs.View.{is_int}
use Rattle.sqlite.specs.Kind.TheVariants.{Integer}
use Rattle.sqlite.specs.Does.{Tally, Does}
use Rattle.sqlite.specs.Rows.{Written}
use Rattle.sqlite.specs.Tree.{Trees, put_row}
use Rattle.sqlite.specs.Effect.{Database, value_rows}
use Rattle.sqlite.specs.Listing.{understood}
use Rattle.sqlite.specs.State.{State, mode_of, Executes}
use Rattle.sqlite.proofs.Callers.{statement_of, runs_as, one_step}
use Rattle.ds_ledger_table.specs.Form.{ledger_schema, command_table, command_columns, insert_text}
use Rattle.ds_ledger_table.specs.Rows.{shown, rows_in, IsRow, is_cell, are_cells}
use Rattle.ds_ledger_table.proofs.TextLemmas.{terms, insert_is, insert_plain}
use Rattle.ds_ledger_table.proofs.RowLemmas.{cast_cell, cast_cells, as_many_cells, cells_from, put_among}

-- a part that gave a value did not stop on the way
pub went : {B E R : Type 0} {b : B} {Stops : E → Type 0} → ((stop : E) × Stops stop × (Ok b ≡ Err stop)) ⊎ R → R
went (inl stopped) = absurd (let e = stopped.2 in cc)
went (inr on) = on

pub same_value : {B E : Type 0} {a b : B} → ◌≡◌ {A = Result B E} (Ok a) (Ok b) → a ≡ b
same_value e = cc

-- a row as it is stored: the column that the rowid stands for has NULL
abbrev stored : Row → Row
stored row = column row 0 ∷ Null ∷ drop 1 row

abbrev others : List Column
others = drop 1 command_columns

-- the cells behind the first
rest_is : (v : Value) (rest : Row) → IsRow (v ∷ rest) → (length rest ≡ 27) × (are_cells others rest ≡ true) × (is_cell Integer v ≡ true)
rest_is v rest h = let both = and_parts _ _ h.1 in (as_many_cells others rest both.1, both.1, both.0)

stored_is : (row : Row) → IsRow row → map (λ s. cast_row command_table (drop 0 s)) (value_rows row 29 1 terms) ≡ stored row ∷ []
stored_is [] h = absurd (let no = h.1 in cc)
stored_is (v ∷ rest) h =
    let own = rest_is v rest h in
    let cells : map (column (v ∷ rest)) (range_with_len 1 27) ≡ rest = cells_from (v ∷ rest) 1 27 (omega (arith, own.0)) ∙ take_all 27 rest (omega (arith, own.0)) in
    let cast_rest : cast_all others rest ≡ rest = cast_cells others rest own.1 in
    let first : cast Integer v ≡ v = cast_cell Integer v own.2 in
    let null : cast Integer Null ≡ Null = cast_cell Integer Null refl in
    ap (λ (l : Row). (cast Integer v ∷ cast Integer Null ∷ cast_all others l) ∷ []) cells ∙ rw (cast_rest, first, null)

shown_is : (row : Row) → IsRow row → shown (stored row) ≡ row
shown_is [] h = absurd (let no = h.1 in cc)
shown_is (v ∷ rest) h =
    let own = rest_is v rest h in
    ap (λ (l : Row). v ∷ l) (cells_from (v ∷ Null ∷ rest) 2 27 (omega (arith, own.0)) ∙ take_all 27 rest (omega (arith, own.0)))

rowid_stays : {X : Type 0} (v : Value) (x y : X) → IsTrue (is_int v) → cond (is_null v) x y ≡ y
rowid_stays Null x y h = absurd cc
rowid_stays (Int n) x y h = refl
rowid_stays (Real r) x y h = absurd cc
rowid_stays (Text t) x y h = absurd cc
rowid_stays (Blob b) x y h = absurd cc

not_taken : (b : Bool) → (not b && true) ≡ true → b ≡ false
not_taken true h = absurd cc
not_taken false h = refl

pub inserts : (old new : State) (row : Row) (count : ℕ) → old.now.schema ≡ ledger_schema → IsRow row → Executes insert_text row old new (Ok count)
    → (new.now.schema ≡ ledger_schema) × IsPermutation (rows_in old.now.trees ++ row ∷ []) (rows_in new.now.trees)
inserts old new row count has fits h =
    let db = old.now.trees in
    let command = Insert 0 (Values terms 29) in
    let w = runs_as insert_text row old new ledger_schema has command insert_is insert_plain count h in
    let text = statement_of insert_text (understood ledger_schema insert_text) in
    let done = went (subst (λ s. Does old.step_limit (mode_of old) row (record old.now { schema = s }) text None command (Ok (w.tally, new.now))) has w.changed) in
    let now = ap (λ (p : Tally × Database). p.1) (same_value (went (went done.2).2).2) in
    let given = went done.1 in
    let written = went (went given.2).2 in
    let counted = went written.2 in
    let trees : done.0.trees ≡ written.0 = ap (λ (it : Written). it.trees) (same_value counted.2) ∙ same_value counted.1 in
    let step = one_step ledger_schema _ db written.0 (edit_of db command_table [] Chosen 0 given.0) refl written.1 in
    let source : given.0 ≡ value_rows row 29 1 terms = given.1.1 ∙ ap (λ (p : Row). value_rows p 29 1 terms) (append-nil row) in
    let sources : map (λ s. cast_row command_table (drop 0 s)) given.0 ≡ stored row ∷ [] = ap (map (λ s. cast_row command_table (drop 0 s))) source ∙ stored_is row fits in
    let news : (edit_of db command_table [] Chosen 0 given.0).news ≡ stored row ∷ [] = ap (numbered Chosen (db 0)) sources ∙ ap (λ (r : Row). r ∷ []) (rowid_stays (column row 0) _ _ fits.0) in
    let fresh : is_taken (db 0) (stored row) ≡ false = not_taken _ (subst (λ (l : List Row). are_fresh (db 0) l ≡ true) news step.fresh) in
    let rows : written.0 0 ≡ put_row (stored row) (db 0) = step.rows ∙ ap (put_all (db 0)) news in
    let after : new.now.trees 0 ≡ put_row (stored row) (db 0) = ap (λ (d : Database). d.trees 0) now ∙ ap (λ (t : Trees). t 0) trees ∙ rows in
    let among = IsPermutation-map shown _ _ (put_among (stored row) (db 0) fresh) in
    let before : map shown (db 0 ++ stored row ∷ []) ≡ rows_in db ++ row ∷ [] = map-append shown (db 0) (stored row ∷ []) ∙ ap (λ (r : Row). rows_in db ++ r ∷ []) (shown_is row fits) in
    (ap (λ (d : Database). d.schema) now, subst₂ IsPermutation before (ap (map shown) (sym after)) among)
