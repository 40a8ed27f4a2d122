use Rattle.std.proofs.Common.{ℕ, ◌<◌, ◌≤◌, length, List, Option, None, Some, arith, refl, IsSome, MatchOption}
use Rattle.meter_book.specs.Replay.{Book}
use Rattle.meter_fabric.specs.Closing.{AreEven, IsLong, IsShort, rows_at}
use Rattle.meter_fabric.specs.Fabrics.{visits_at}
use Rattle.meter_fabric.proofs.ColumnLaws.{even_long, even_short}
use Rattle.meter_fabric.proofs.columns.uneven.Goals as goal

pub returns-in_err-short : goal.returns-in_err-short
returns-in_err-short g c =
    rw c.from_residual.ensures (even_short c.args.books.now c.args.passes.now c.requires.sized c.requires.total c.in_err-short.ensures)

-- where a site has fewer rows, another has more
some_long : (books : List (Option Book)) (passes : List (List ℕ)) (short : ℕ) (long : Option ℕ) → short < length books → IsShort books passes short
    → (((s : ℕ) → s < length books → rows_at books s ≤ visits_at passes s) → AreEven books passes)
    → MatchOption long ((s : ℕ) → s < length books → rows_at books s ≤ visits_at passes s) (λ s. (s < length books) × IsLong books passes s) → IsSome long
some_long books passes short None below is even none = let same = even none short below in absurd (omega (arith, is.1, same))
some_long books passes short (Some s) below is even found = refl

pub unwrap-long-requires : goal.unwrap-long-requires
unwrap-long-requires g c =
    some_long c.args.books.now c.args.passes.now c.in_ok-short.short c.first_long.result c.in_ok-short.ensures.0 c.in_ok-short.ensures.1
    (even_long c.args.books.now c.args.passes.now c.requires.sized c.requires.total) c.first_long.ensures
