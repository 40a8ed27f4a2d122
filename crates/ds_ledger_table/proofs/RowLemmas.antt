-- Rows as they are stored, and as a query shows them.
use Rattle.std.proofs.Common.{◌≡◌, ◌+◌, ◌≤◌, ◌<◌, ℕ, zero, suc, List, [], ◌∷◌, ◌++◌, map, length, take, drop, Bool, true, false, cond, refl, sym, ap, subst, ◌∙◌, arith, get_or}
use Rattle.std.specs.List.{range_with_len}
use Rattle.std.specs.Ordering.{match_ordering, is_eq}
use Rattle.std.specs.declared.cmp.Ordering.{Ordering}
use Rattle.std.specs.declared.cmp.Ordering.TheVariants.{Less, Equal, Greater}
use Rattle.std.specs.List.Sorted.{IsPermutation}
use Rattle.std.proofs.lemmas.Bool.{and_parts as and_both, or_parts}
use Rattle.std.proofs.lemmas.List.{drop_more, ext_get_or, get_or-map, length-map}
use Rattle.std.proofs.lemmas.List.Sorted.{IsPermutation-refl, IsPermutation-cons, IsPermutation-to_front}
use Rattle.sqlite.specs.declared.types.Value.{Value}
use Rattle.sqlite.specs.declared.types.Value.TheVariants as value
use Rattle.sqlite_value.specs.declared.value.ValueRef.{ValueRef}
use Rattle.sqlite_value.specs.declared.value.ValueRef.TheVariants as lent
use Rattle.sqlite.specs.Value.{owned}
use Rattle.sqlite.specs.Values.{bound, bound_value}
use Rattle.sqlite.specs.Order.{Row, column, value_cmp}
use Rattle.sqlite.specs.Ops.{unary}
use Rattle.sqlite.specs.Kind.{Kind}
use Rattle.sqlite.specs.Kind.TheVariants.{Integer, Real, Text, Blob, Any}
use Rattle.sqlite_schema.specs.declared.schema.Column.{Column}
use Rattle.sqlite.specs.Cast.{cast, cast_all}
use Rattle.sqlite.specs.Edit.{is_taken}
use Rattle.sqlite.specs.Tree.{rowid, put_row}
use Rattle.ds_ledger_table.specs.Form.{command_columns}
use Rattle.ds_ledger_table.specs.Rows.{is_cell, are_cells, IsRow}

either : (b : Bool) (x : Value) → cond b x x ≡ x
either true x = refl
either false x = refl

pub cast_cell : (kind : Kind) (v : Value) → is_cell kind v ≡ true → cast kind v ≡ v
unfolding unary
cast_cell Integer value.Null h = either _ value.Null
cast_cell Integer (value.Int n) h = either _ (value.Int n)
cast_cell Integer (value.Real x) h = absurd cc
cast_cell Integer (value.Text t) h = absurd cc
cast_cell Integer (value.Blob b) h = absurd cc
cast_cell Real value.Null h = absurd cc
cast_cell Real (value.Int n) h = absurd cc
cast_cell Real (value.Real x) h = absurd cc
cast_cell Real (value.Text t) h = absurd cc
cast_cell Real (value.Blob b) h = absurd cc
cast_cell Text value.Null h = refl
cast_cell Text (value.Int n) h = absurd cc
cast_cell Text (value.Real x) h = absurd cc
cast_cell Text (value.Text t) h = refl
cast_cell Text (value.Blob b) h = absurd cc
cast_cell Blob v h = refl
cast_cell Any v h = refl

pub cast_cells : (columns : List Column) (cells : Row) → are_cells columns cells ≡ true → cast_all columns cells ≡ cells
cast_cells [] [] h = refl
cast_cells [] (v ∷ vs) h = absurd cc
cast_cells (c ∷ cs) [] h = absurd cc
cast_cells (c ∷ cs) (v ∷ vs) h =
    let both = and_both _ _ h in
    rw (cast_cell c.kind v both.0, cast_cells cs vs both.1) refl

pub as_many_cells : (columns : List Column) (cells : Row) → are_cells columns cells ≡ true → length cells ≡ length columns
as_many_cells [] [] h = refl
as_many_cells [] (v ∷ vs) h = absurd cc
as_many_cells (c ∷ cs) [] h = absurd cc
as_many_cells (c ∷ cs) (v ∷ vs) h = ap suc (as_many_cells cs vs (and_both _ _ h).1)

-- the cells from one on, so many
pub cells_from : (row : Row) (k n : ℕ) → k + n ≤ length row → map (column row) (range_with_len k n) ≡ take n (drop k row)
cells_from row k zero within = refl
cells_from row k (suc n) within =
    let front : k < length row = omega arith in
    subst (λ (l : Row). column row k ∷ map (column row) (range_with_len (k + 1) n) ≡ take (suc n) l) (sym (drop_more row k value.Null front))
    (ap (λ (l : Row). column row k ∷ l) (cells_from row (k + 1) n (omega arith)))

-- a row whose rowid is none of these goes among them
pub put_among : (new : Row) (rows : List Row) → is_taken rows new ≡ false → IsPermutation (rows ++ new ∷ []) (put_row new rows)
put_among new [] fresh = IsPermutation-refl _
put_among new (r ∷ rs) fresh =
    let apart = or_parts _ _ fresh in
    go (value_cmp (rowid r) (rowid new)) refl apart.0 (put_among new rs apart.1)
  where
    go : (o : Ordering) → value_cmp (rowid r) (rowid new) ≡ o → is_eq (value_cmp (rowid r) (rowid new)) ≡ false → IsPermutation (rs ++ new ∷ []) (put_row new rs)
        → IsPermutation (r ∷ (rs ++ new ∷ [])) (match_ordering o (r ∷ put_row new rs) (new ∷ rs) (new ∷ r ∷ rs))
    go Less e other more = IsPermutation-cons r _ _ more
    go Equal e other more = absurd (let same = rw e at other in cc)
    go Greater e other more = IsPermutation-to_front (r ∷ rs) new

bound_cell : (kind : Kind) (v : Value) → is_cell kind v ≡ true → bound_value v ≡ v
bound_cell Integer value.Null h = refl
bound_cell Integer (value.Int n) h = refl
bound_cell Integer (value.Real x) h = absurd cc
bound_cell Integer (value.Text t) h = absurd cc
bound_cell Integer (value.Blob b) h = absurd cc
bound_cell Real value.Null h = refl
bound_cell Real (value.Int n) h = refl
bound_cell Real (value.Real x) h = absurd cc
bound_cell Real (value.Text t) h = refl
bound_cell Real (value.Blob b) h = refl
bound_cell Text value.Null h = refl
bound_cell Text (value.Int n) h = refl
bound_cell Text (value.Real x) h = absurd cc
bound_cell Text (value.Text t) h = refl
bound_cell Text (value.Blob b) h = refl
bound_cell Blob value.Null h = refl
bound_cell Blob (value.Int n) h = refl
bound_cell Blob (value.Real x) h = absurd cc
bound_cell Blob (value.Text t) h = refl
bound_cell Blob (value.Blob b) h = refl
bound_cell Any value.Null h = refl
bound_cell Any (value.Int n) h = refl
bound_cell Any (value.Real x) h = absurd cc
bound_cell Any (value.Text t) h = refl
bound_cell Any (value.Blob b) h = refl

bound_cells : (columns : List Column) (cells : Row) → are_cells columns cells ≡ true → map bound_value cells ≡ cells
bound_cells [] [] h = refl
bound_cells [] (v ∷ vs) h = absurd cc
bound_cells (c ∷ cs) [] h = absurd cc
bound_cells (c ∷ cs) (v ∷ vs) h = let both = and_both _ _ h in rw (bound_cell c.kind v both.0, bound_cells cs vs both.1) refl

each_twice : (values : List ValueRef) → bound values ≡ map bound_value (map owned values)
each_twice [] = refl
each_twice (v ∷ vs) = ap (λ (l : Row). bound_value (owned v) ∷ l) (each_twice vs)

-- values that are lent by the cells of a row are bound as the row
pub bound_is : (values : List ValueRef) (row : Row) → length values ≡ 28 → ((k : ℕ) → k < 28 → owned (get_or values k lent.Null) ≡ column row k) → IsRow row → bound values ≡ row
bound_is values row len each fits =
    let size : length row ≡ 28 = as_many_cells command_columns row fits.1 in
    let same : map owned values ≡ row = ext_get_or value.Null (map owned values) row (omega (arith, length-map values owned, len, size))
    (λ k low. get_or-map owned values k lent.Null value.Null (omega (arith, len, length-map values owned)) ∙ each k (omega (arith, length-map values owned, len))) in
    each_twice values ∙ ap (map bound_value) same ∙ bound_cells command_columns row fits.1
