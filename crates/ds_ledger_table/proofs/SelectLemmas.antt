-- What the query of a ledger's rows shows.
use Rattle.std.proofs.Common.{◌≡◌, ◌↔◌, ℕ, ℤ, pos, Bool, true, false, IsTrue, List, [], ◌∷◌, map, codes, Contains, inl, inr, Ok, Err, Result, OnOk, FitsSigned, w64, eqb, of_z, to_z, to_z-of_z, refl, sym, ap, subst, ◌∙◌, arith}
use Rattle.std.specs.List.{flat_map}
use Rattle.std.specs.List.Sorted.{IsPermutation}
use Rattle.std.proofs.lemmas.Bool.Decides.{Decides-eqb}
use Rattle.std.proofs.lemmas.List.Elements.{Contains-get_or}
use Rattle.std.proofs.lemmas.List.Sorted.{Contains-permutation, IsPermutation-map, IsPermutation-sym}
use Rattle.sqlite.specs.declared.types.Value.TheVariants.{Null, Int}
use Rattle.sqlite.specs.Order.{Row, column}
use Rattle.sqlite.specs.Effect.{Database}
use Rattle.sqlite.specs.Query.{Output, output}
use Rattle.sqlite.specs.Command.TheVariants.{Select}
use Rattle.sqlite.specs.Listing.{understood}
use Rattle.sqlite.specs.Clock.{timed}
use Rattle.sqlite.specs.declared.error.Error.{Error}
use Rattle.sqlite.specs.State.{State, IsUnchanged, Survives, Shown, ShowsRows, QueriesRow, CommitsShowing}
use Rattle.sqlite.proofs.StateLemmas.{survives_weaker}
use Rattle.sqlite.proofs.Callers.{IsPlain, first_as, reads_as, never_commits}
use Rattle.ds_ledger_table.specs.Form.{ledger_schema, select_text, version_query}
use Rattle.ds_ledger_table.specs.Rows.{shown, rows_in, TellsForm, versions_in}
use Rattle.ds_ledger_table.proofs.TextLemmas.{names, query, select_is, select_plain, version_body, version_is, version_plain}

-- a query changes nothing
pub shown_unchanged : (sql : List ℕ) (params : Row) (old new : State) (rows : List Row) → IsPlain (understood old.now.schema sql) → Shown sql params old new rows → IsUnchanged old new
unfolding Shown
shown_unchanged sql params old new rows plain h =
    let none = (subst IsPlain h.1.is plain).0 in
    let full = timed params h.0.formats h.1.now in
    (subst (ShowsRows old new sql h.0 full rows) none h.2).3

-- one output for each row of the table
outputs : (rows : List Row) → map (output query) (flat_map (λ r. ([] ∷ r ∷ []) ∷ []) rows) ≡ map (λ r. ([], shown r)) rows
outputs [] = refl
outputs (r ∷ rs) = ap (λ (l : List Output). ([], shown r) ∷ l) (outputs rs)

seconds : (rows : List Row) → map (λ (o : Output). o.1) (map (λ r. ([], shown r)) rows) ≡ map shown rows
seconds [] = refl
seconds (r ∷ rs) = ap (λ (l : List Row). shown r ∷ l) (seconds rs)

pub selects : (old new : State) (rows : List Row) → old.now.schema ≡ ledger_schema → Shown select_text [] old new rows → IsPermutation (rows_in old.now.trees) rows
selects old new rows has h =
    let read = reads_as select_text [] old new ledger_schema has (Select (record { lets = []; body = query }) names) select_is.0 select_plain select_is.1 rows h in
    let a = read.answer Null in
    let kept = a.distinct ∙ ap (map (output query)) a.grouped ∙ outputs (old.now.trees 0) in
    let among = IsPermutation-map (λ (o : Output). o.1) _ _ a.same in
    let front : map (λ (o : Output). o.1) a.kept ≡ rows_in old.now.trees = ap (map (λ (o : Output). o.1)) kept ∙ seconds (old.now.trees 0) in
    subst (λ (l : List Row). IsPermutation (rows_in old.now.trees) l) (sym a.shown) (subst (λ (l : List Row). IsPermutation l (map (λ (o : Output). o.1) a.ordered)) front among)

-- a query commits nothing
pub commits_nothing : (sql : List ℕ) (params : Row) (old new : State) → IsPlain (understood old.now.schema sql) → Survives old new (CommitsShowing sql params old) → Survives old new (λ _. ⊥)
commits_nothing sql params old new plain = survives_weaker old new _ _ (λ _ db. never_commits sql params old db plain)

pub row_unchanged : (sql : List ℕ) (params : Row) (old new : State) → IsPlain (understood old.now.schema sql) → (result : Result Row Error) → QueriesRow sql params old new result
    → OnOk result (IsUnchanged old new)
unfolding QueriesRow
row_unchanged sql params old new plain (Err e) h = tt
row_unchanged sql params old new plain (Ok row) (inl h) = h.1
row_unchanged sql params old new plain (Ok row) (inr h) = shown_unchanged sql params old new h.0 plain h.1

-- the query of the rows commits nothing and reads no time
pub plain_in : (s : State) → s.now.schema ≡ ledger_schema → IsPlain (understood s.now.schema select_text)
plain_in s has = subst (λ schema. IsPlain (understood schema select_text)) (sym has) select_plain

-- one output for each row of the form's table
version_outputs : (rows : List Row) → map (output version_body) (flat_map (λ r. ([] ∷ r ∷ []) ∷ []) rows) ≡ map (λ r. ([], column r 0 ∷ [])) rows
version_outputs [] = refl
version_outputs (r ∷ rs) = ap (λ (l : List Output). ([], column r 0 ∷ []) ∷ l) (version_outputs rs)

version_seconds : (rows : List Row) → map (λ (o : Output). o.1) (map (λ r. ([], column r 0 ∷ [])) rows) ≡ map (λ r. column r 0 ∷ []) rows
version_seconds [] = refl
version_seconds (r ∷ rs) = ap (λ (l : List Row). (column r 0 ∷ []) ∷ l) (version_seconds rs)

-- the row that the query of the version gives is one of the form's table
pub told_version : (old new : State) (row : Row) → old.now.schema ≡ ledger_schema → QueriesRow version_query [] old new (Ok row) → Contains (versions_in old.now.trees) row
told_version old new row has h =
    let read = first_as version_query [] old new ledger_schema has (Select (record { lets = []; body = version_body }) (codes "version" ∷ [])) version_is.0 version_plain version_is.1 row h in
    let start = read.1 in
    let a = start.1 Null in
    let kept = a.distinct ∙ ap (map (output version_body)) a.grouped ∙ version_outputs (old.now.trees 1) in
    let among = IsPermutation-map (λ (o : Output). o.1) _ _ a.same in
    let front : map (λ (o : Output). o.1) a.kept ≡ versions_in old.now.trees = ap (map (λ (o : Output). o.1)) kept ∙ version_seconds (old.now.trees 1) in
    let all : IsPermutation (versions_in old.now.trees) (row ∷ start.0) =
    subst (λ (l : List Row). IsPermutation (versions_in old.now.trees) l) (sym a.shown) (subst (λ (l : List Row). IsPermutation l (map (λ (o : Output). o.1) a.ordered)) front among) in
    Contains-permutation (row ∷ start.0) (versions_in old.now.trees) row (IsPermutation-sym _ _ all) (Contains-get_or (row ∷ start.0) 0 row (omega arith))

-- whether its number is that of the version
pub told_form : (db : Database) (row : Row) (version : ℤ) → db.schema ≡ ledger_schema → Contains (versions_in db.trees) row → column row 0 ≡ Int version
    → (is : Bool) → (IsTrue is ↔ (version ≡ pos 1)) → TellsForm db is
told_form db row version has among cell true same = (has, (row, among, cell ∙ ap Int (same.0 refl)))
told_form db row version has among cell false same = inr (has, version, (λ one. let no = same.1 one in cc), (row, among, cell))

pub is_first : (version : ℤ) → FitsSigned w64 version → IsTrue (eqb (of_z w64 version) 1) ↔ (version ≡ pos 1)
is_first version fits =
    let same = Decides-eqb (of_z w64 version) 1 in
    ((λ is. sym (to_z-of_z fits) ∙ ap (to_z w64) (same.0 is)), (λ one. same.1 (ap (of_z w64) one)))
