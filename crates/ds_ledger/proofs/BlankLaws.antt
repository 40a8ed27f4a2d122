-- A database that lists nothing has no row.
use Rattle.std.proofs.Common.{◌≡◌, ℕ, List, [], ◌∷◌, ◌++◌, Bool, true, false, map, inl, inr, refl, sym, ap, subst, ◌∙◌, arith}
use Rattle.std.specs.List.Sorted.{IsPermutation}
use Rattle.std.proofs.lemmas.List.Sorted.{IsPermutation-refl}
use Rattle.sqlite_value.specs.Order.{Row}
use Rattle.sqlite_pages.specs.PageMap.{PageMap}
use Rattle.sqlite_trees.specs.Objects.{catalog_tree}
use Rattle.sqlite_trees.specs.Tree.{Trees}
use Rattle.sqlite_trees.specs.declared.store.Shape.{Shape}
use Rattle.sqlite_trees.specs.declared.store.Shape.TheVariants.{Absent, Table, Index, Pageless, FrozenTable, FrozenIndex}
use Rattle.sqlite_schema.specs.declared.schema.Schema.{Schema}
use Rattle.sqlite_catalog.specs.Listing.{AreListed, IsSound, is_table_row, is_view_row}
use Rattle.sqlite_store.specs.declared.catalog.Wanted.{Wanted}
use Rattle.sqlite_store.specs.Db.{rows_at, shown, thawed, trees_in}
use Rattle.sqlite_store.specs.Listing.{all_trees, listed, listed_from}
use Rattle.sqlite.specs.Effect.{Database, IsDatabase}
use Rattle.sqlite.specs.Files.{AreFoundIn}
use Rattle.sqlite.specs.Recovery.{Image}
use Rattle.ds_broker.specs.declared.command.Command.{Command}
use Rattle.ds_ledger_table.specs.Form.{no_schema}
use Rattle.ds_ledger_table.specs.Rows.{rows_in, shown as shown_row}
use Rattle.ds_ledger.specs.Kept.{WasFound, rows_of}

-- an object is a table, a view or an index
no_object : (o : Row) (os : List Row) → AreListed (o ∷ os) no_schema → (t v : Bool) → is_table_row o ≡ t → is_view_row o ≡ v → ⊥
no_object o os h true v table view = rw table at h.tables
no_object o os h false true table view = rw view at h.views
no_object o os h false false table view = rw (table, view) at h.indexes

no_objects : (objects : List Row) → AreListed objects no_schema → objects ≡ []
no_objects [] h = refl
no_objects (o ∷ os) h = absurd (no_object o os h (is_table_row o) (is_view_row o) refl refl)

-- a tree that is not listed has no rows
module _ (size : ℕ) (pages : PageMap) (reals root : ℕ) (w : Wanted) (rest : List Row) where
  unlisted : (shape : Shape) → listed 0 w shape ++ rest ≡ [] → map (shown (thawed shape) reals) (rows_at size pages (thawed shape) root) ≡ []
  unlisted Absent none = refl
  unlisted Table none = absurd (let e = none in cc)
  unlisted (Index o) none = absurd (let e = none in cc)
  unlisted Pageless none = refl
  unlisted FrozenTable none = absurd (let e = none in cc)
  unlisted (FrozenIndex o) none = absurd (let e = none in cc)

first_tree : (size : ℕ) (pages : PageMap) (wanted : List Wanted) → listed_from 0 wanted ≡ [] → trees_in size wanted pages 0 ≡ []
unfolding trees_in
first_tree size pages [] none = refl
first_tree size pages (w ∷ wanted) none = unlisted size pages _ _ w (listed_from 1 wanted) w.shape none

in_file : (size : ℕ) (pages : PageMap) (wanted : List Wanted) → all_trees size wanted pages catalog_tree ≡ [] → all_trees size wanted pages 0 ≡ []
unfolding all_trees
in_file size pages wanted none = first_tree size pages wanted none

pub blank_rows : (image : Image) (db : Trees) → IsSound no_schema db → AreFoundIn image db → db 0 ≡ []
blank_rows image db sound (inl (size, pages, wanted, adopts, ours, is)) =
    let none : db catalog_tree ≡ [] = no_objects (db catalog_tree) sound.lists.listed in
    ap (λ (t : Trees). t 0) is ∙ in_file size _ wanted (sym (ap (λ (t : Trees). t catalog_tree) is) ∙ none)
blank_rows image db sound (inr empty) = empty.1.0 0 (omega arith)

-- what was found are commands with the rows of the database
pub are_found : (image : Image) (db : Database) (history : List Command) → WasFound db history → IsDatabase db → AreFoundIn image db.trees → IsPermutation (rows_of history) (rows_in db.trees)
are_found image db history (inl holds) whole reads = holds.rows_are
are_found image db history (inr none) whole reads =
    let rows : rows_in db.trees ≡ [] = ap (map shown_row) (blank_rows image db.trees (subst (λ (s : Schema). IsSound s db.trees) none.0 whole) reads) in
    subst (λ (h : List Command). IsPermutation (rows_of h) (rows_in db.trees)) (sym none.1) (subst (IsPermutation []) (sym rows) (IsPermutation-refl []))
