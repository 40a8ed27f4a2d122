-- A meter that keeps sums alone, and the book of the same arrivals.
use Rattle.std.proofs.Common.{◌≡◌, ℕ, ◌+◌, List, [], ◌∷◌, ◌++◌, None, map, refl, sym, ◌∙◌, ap, append-nil, append_assoc}
use Rattle.meter_book_base.specs.AnyMeter.{left_of}
use Rattle.meter_book.specs.declared.row.Arrival.{Arrival}
use Rattle.meter_book.specs.declared.row.Row.{Row}
use Rattle.meter_book.specs.declared.standing.Standing.{Standing}
use Rattle.meter_book.specs.Replay.{fresh, offer_of, rows_from, standing_after}
use Rattle.meter_book.specs.Running.{ColoursAsBook, Running, StandsAsBook, colours_answered, counted_all}
use Rattle.meter_book.proofs.StandingLaws.{standing_after-append}

stands_behind : (s : Standing) (most : ℕ) (front arrivals : List Arrival)
    → (counted_all (record { standing = standing_after s front None; most = most }) arrivals).standing ≡ standing_after s (front ++ arrivals) None
stands_behind s most front [] = ap (λ as_. standing_after s as_ None) (sym (append-nil front))
stands_behind s most front (a ∷ as_) =
    ap (λ stood. (counted_all (record { standing = stood; most = most }) as_).standing) (standing_after-append s front (a ∷ []) None None)
    ∙ stands_behind s most (front ++ a ∷ []) as_
    ∙ ap (λ all. standing_after s all None) (append_assoc front (a ∷ []) as_)

pub stands_as_book : StandsAsBook
stands_as_book meter skew most arrivals = stands_behind (fresh meter skew) most [] arrivals

colours_as_rows : (r : Running) (place : ℕ) (arrivals : List Arrival)
    → colours_answered r arrivals ≡ map (λ (row : Row). row.left) (rows_from r.standing.meter place arrivals)
colours_as_rows r place [] = refl
colours_as_rows r place (a ∷ as_) =
    ap (λ colours. left_of r.standing.meter (offer_of a) ∷ colours)
    (colours_as_rows (record r { standing = standing_after r.standing (a ∷ []) None }) (place + 1) as_)

pub colours_as_book : ColoursAsBook
colours_as_book meter skew most arrivals = colours_as_rows (record { standing = fresh meter skew; most = most }) 0 arrivals
