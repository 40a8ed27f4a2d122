-- The rows of commands, and how far they go.
use Rattle.std.proofs.Common.{◌≡◌, ◌+◌, List, [], ◌∷◌, ◌++◌, length, refl, sym, ap, ◌∙◌, append_assoc, append-nil, arith}
use Rattle.std.proofs.lemmas.List.{length-append}
use Rattle.sqlite_value.specs.Order.{Row}
use Rattle.ds_broker.specs.Histories.{Standing, after, standing_of}
use Rattle.ds_broker.specs.declared.command.Command.{Command}
use Rattle.ds_broker.specs.declared.command.Command.TheVariants.{Reserve, Release, Retire}
use Rattle.ds_broker.proofs.StandingLaws.{standing-push}
use Rattle.ds_ledger_base.specs.Numbers.{id_for}
use Rattle.ds_ledger_rows.specs.Cells.{cells_of, id_of}
use Rattle.ds_ledger.specs.Kept.{rows_behind, rows_of, end_of, granted_by, next_end, end_after, row_at, rows_from}
use Rattle.ds_ledger.specs.declared.ledger.End.{End}

abbrev pub start : End
start = record { serial = 0; granted = 0 }

-- the rows of commands and of more behind them
pub rows_behind-append : (before first more : List Command) → rows_behind before (first ++ more) ≡ rows_behind before first ++ rows_behind (before ++ first) more
rows_behind-append before [] more = ap (λ (b : List Command). rows_behind b more) (sym (append-nil before))
rows_behind-append before (c ∷ first) more =
    ap (λ (rows : List Row). cells_of (length before + 1) (id_for before c) c ∷ rows)
    (rows_behind-append (before ++ c ∷ []) first more ∙ ap (λ (b : List Command). rows_behind (before ++ c ∷ []) first ++ rows_behind b more) (append_assoc before (c ∷ []) first))

grants : (s : Standing) (c : Command) → (after s c).granted ≡ s.granted + granted_by c
grants s (Reserve contract) = refl
grants s (Release id at) = omega arith
grants s (Retire id moment) = omega arith

-- how far commands go with one more
pub end_behind : (before : List Command) (c : Command) → next_end (end_of before) c ≡ end_of (before ++ c ∷ [])
end_behind before c =
    let size : length (before ++ c ∷ []) ≡ length before + 1 = length-append before (c ∷ []) in
    let granted = ap (λ (s : Standing). s.granted) (standing-push before c) ∙ grants (standing_of before) c in
    rw (size, granted) refl

-- and with these
pub end_behind_all : (before commands : List Command) → end_after (end_of before) commands ≡ end_of (before ++ commands)
end_behind_all before [] = ap end_of (sym (append-nil before))
end_behind_all before (c ∷ commands) =
    ap (λ (e : End). end_after e commands) (end_behind before c) ∙ end_behind_all (before ++ c ∷ []) commands ∙ ap end_of (append_assoc before (c ∷ []) commands)

pub row_behind : (before : List Command) (c : Command) → cells_of (length before + 1) (id_for before c) c ≡ row_at (end_of before) c
row_behind before (Reserve contract) = refl
row_behind before (Release id at) = refl
row_behind before (Retire id moment) = refl

-- the rows by how far the commands before them go
pub rows_by_end : (before commands : List Command) → rows_behind before commands ≡ rows_from (end_of before) commands
rows_by_end before [] = refl
rows_by_end before (c ∷ commands) =
    ap (λ (row : Row). row ∷ rows_behind (before ++ c ∷ []) commands) (row_behind before c)
    ∙ ap (λ (rows : List Row). row_at (end_of before) c ∷ rows) (rows_by_end (before ++ c ∷ []) commands ∙ ap (λ (e : End). rows_from e commands) (sym (end_behind before c)))

pub none_yet : end_of [] ≡ start
unfolding standing_of
none_yet = refl

-- one row more
pub rows_from-push : (end : End) (commands : List Command) (c : Command) → rows_from end (commands ++ c ∷ []) ≡ rows_from end commands ++ row_at (end_after end commands) c ∷ []
rows_from-push end [] c = refl
rows_from-push end (x ∷ commands) c = ap (λ (rows : List Row). row_at end x ∷ rows) (rows_from-push (next_end end x) commands c)

pub end_after-push : (end : End) (commands : List Command) (c : Command) → end_after end (commands ++ c ∷ []) ≡ next_end (end_after end commands) c
end_after-push end [] c = refl
end_after-push end (x ∷ commands) c = end_after-push (next_end end x) commands c

-- from the first command on
pub rows_of_all : (commands : List Command) → rows_of commands ≡ rows_from start commands
rows_of_all commands = rows_by_end [] commands ∙ ap (λ (e : End). rows_from e commands) none_yet

pub end_of_all : (commands : List Command) → end_after start commands ≡ end_of commands
end_of_all commands = ap (λ (e : End). end_after e commands) (sym none_yet) ∙ end_behind_all [] commands

-- the row of the next command by the end that it leads to
pub own_row : (end next : End) (c : Command) → next ≡ next_end end c → cells_of next.serial (id_of next.granted c) c ≡ row_at end c
own_row end next (Reserve contract) is = ap (λ (e : End). cells_of e.serial (id_of e.granted (Reserve contract)) (Reserve contract)) is
own_row end next (Release id at) is = ap (λ (e : End). cells_of e.serial (id_of e.granted (Release id at)) (Release id at)) is
own_row end next (Retire id moment) is = ap (λ (e : End). cells_of e.serial (id_of e.granted (Retire id moment)) (Retire id moment)) is

pub as_many_rows : (end : End) (commands : List Command) → length (rows_from end commands) ≡ length commands
as_many_rows end [] = refl
as_many_rows end (c ∷ commands) = omega (arith, as_many_rows (next_end end c) commands)
