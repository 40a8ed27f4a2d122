-- Rows tell the commands that they are of.
use Rattle.std.proofs.Common.{◌≡◌, ◌+◌, ◌-◌, ◌<◌, ℕ, pos, zero, suc, List, [], ◌∷◌, ◌++◌, length, drop, get_or, All, refl, sym, ap, subst, ◌∙◌, arith}
use Rattle.std.specs.List.Sorted.{IsPermutation}
use Rattle.std.proofs.lemmas.List.{same_lists, length-append}
use Rattle.std.proofs.lemmas.List.Elements.{All-tail}
use Rattle.std.proofs.lemmas.List.Sorted.{All-permutation, length_permutation}
use Rattle.sqlite_value.specs.declared.value.Value.{Value}
use Rattle.sqlite_value.specs.declared.value.Value.TheVariants.{Int}
use Rattle.sqlite_value.specs.Order.{Row, column}
use Rattle.ds_broker.specs.Histories.{standing_of}
use Rattle.ds_broker.specs.declared.command.Command.{Command}
use Rattle.ds_broker.specs.declared.command.Command.TheVariants.{Reserve, Release, Retire}
use Rattle.ds_ledger_base.specs.Numbers.{id_for}
use Rattle.ds_ledger_rows.specs.Cells.{cells_of}
use Rattle.ds_ledger_rows.specs.Sound.{IsSound}
use Rattle.ds_ledger_rows.proofs.CellLaws.{command_same}
use Rattle.ds_ledger.specs.Kept.{rows_behind, rows_of}
use Rattle.ds_ledger.specs.Laws.{RowsTellCommands}
use Rattle.ds_ledger.proofs.RowLaws.{row_behind}

-- the number in a row's first column
abbrev number_in : Value → ℕ
number_in (Int (pos n)) = n
number_in other = 0

abbrev number : Row → ℕ
number row = number_in (column row 0)

-- rows are numbered from one on
abbrev AreNumbered : ℕ → List Row → Type 0
AreNumbered n [] = Unit {0}
AreNumbered n (row ∷ rows) = (number row ≡ n) × AreNumbered (n + 1) rows

number_of : (n id : ℕ) (c : Command) → number (cells_of n id c) ≡ n
number_of n id (Reserve contract) = refl
number_of n id (Release of at) = refl
number_of n id (Retire of moment) = refl

numbered : (before commands : List Command) → AreNumbered (length before + 1) (rows_behind before commands)
numbered before [] = tt
numbered before (c ∷ commands) =
    (number_of _ _ c, subst (λ (n : ℕ). AreNumbered (n + 1) (rows_behind (before ++ c ∷ []) commands)) (length-append before (c ∷ [])) (numbered (before ++ c ∷ []) commands))

number_at : (n : ℕ) (rows : List Row) → AreNumbered n rows → (i : ℕ) (d : Row) → i < length rows → number (get_or rows i d) ≡ n + i
number_at n [] h i d low = absurd (omega arith)
number_at n (row ∷ rows) h zero d low = h.0 ∙ omega arith
number_at n (row ∷ rows) h (suc i) d low = number_at (n + 1) rows h.1 i d (omega arith) ∙ omega arith

same_default : (rows : List Row) (i : ℕ) (c d : Row) → i < length rows → get_or rows i c ≡ get_or rows i d
same_default [] i c d low = absurd (omega arith)
same_default (row ∷ rows) zero c d low = refl
same_default (row ∷ rows) (suc i) c d low = same_default rows i c d (omega arith)

-- numbered rows in another order are in the same
in_order : (xs ys : List Row) → AreNumbered 1 xs → AreNumbered 1 ys → IsPermutation xs ys → xs ≡ ys
in_order xs ys h k among =
    let long : length ys ≡ length xs = length_permutation xs ys among in
    let own : All (λ (row : Row). row ≡ get_or xs (number row - 1) row) xs = λ i d low.
    let row = get_or xs i d in
    let at : number row - 1 ≡ i = let n = number_at 1 xs h i d low in omega (arith, n) in
    same_default xs i d row low ∙ ap (λ (j : ℕ). get_or xs j row) (sym at) in
    let all = All-permutation (λ (row : Row). row ≡ get_or xs (number row - 1) row) xs ys among own in
    same_lists xs ys (sym long) (λ i d low.
    let there : i < length ys = omega (arith, low, long) in
    let row = get_or ys i d in
    let at : number row - 1 ≡ i = let n = number_at 1 ys k i d there in omega (arith, n) in
    same_default xs i d row low ∙ ap (λ (j : ℕ). get_or xs j row) (sym at) ∙ sym (all i d there))

same_commands : (before a b : List Command) → All IsSound a → All IsSound b → rows_behind before a ≡ rows_behind before b → a ≡ b
same_commands before [] [] h k same = refl
same_commands before [] (y ∷ b) h k same = absurd cc
same_commands before (x ∷ a) [] h k same = absurd cc
same_commands before (x ∷ a) (y ∷ b) h k same =
    let first : cells_of (length before + 1) (id_for before x) x ≡ cells_of (length before + 1) (id_for before y) y = ap (λ (rows : List Row). get_or rows 0 []) same in
    let one : x ≡ y = command_same (length before + 1) ((standing_of before).granted + 1) x y (h 0 x (omega arith)) (k 0 y (omega arith)) (sym (row_behind before x) ∙ first ∙ row_behind before y) in
    let rest : rows_behind (before ++ x ∷ []) a ≡ rows_behind (before ++ x ∷ []) b = ap (drop 1) same ∙ ap (λ (c : Command). rows_behind (before ++ c ∷ []) b) (sym one) in
    let others = same_commands (before ++ x ∷ []) a b (All-tail IsSound x a h) (All-tail IsSound y b k) rest in
    λ i. one i ∷ others i

pub one_history : RowsTellCommands
one_history a b h k among = same_commands [] a b h k (in_order (rows_of a) (rows_of b) (numbered [] a) (numbered [] b) among)
