-- One arrival more, in a replay and in its sums.
use Rattle.std.proofs.Common.{◌≡◌, ℕ, ◌+◌, Bool, true, false, cond, List, [], ◌∷◌, ◌++◌, length, map, refl, sym, ◌∙◌, ap, arith}
use Rattle.std.proofs.lemmas.List.{length-map, map-append}
use Rattle.std.proofs.lemmas.List.Sums.{sum_by-append}
use Rattle.moment_core.specs.declared.colour.Colour.{Colour}
use Rattle.moment_core.specs.declared.colour.Colour.TheVariants.{Green, Yellow, Red}
use Rattle.moment_core.specs.Colours.{is_green, is_yellow, is_red}
use Rattle.meter_book_base.specs.declared.any_meter.AnyMeter.{AnyMeter}
use Rattle.meter_book.specs.declared.row.Arrival.{Arrival}
use Rattle.meter_book.specs.declared.row.Row.{Row}
use Rattle.meter_book_base.specs.AnyMeter.{after_any, left_of}
use Rattle.meter_book.specs.declared.stored_row.StoredRow.{StoredRow}
use Rattle.meter_book.specs.Kept.{arrival_stored, arrivals_of, stored_of}
use Rattle.meter_book.specs.Replay.{bytes_left, meter_after, offer_of, packets_left, row_of, rows_from}
use Rattle.meter_book.specs.Tallies.{tallies_of, together, with_packet}
use Rattle.meter_book.specs.declared.tally.Tallies.{Tallies}
use Rattle.meter_book.proofs.TallyLaws.{together-packet}

pub meter_after-push : (m : AnyMeter) (before : List Arrival) (a : Arrival) → meter_after m (before ++ a ∷ []) ≡ after_any (meter_after m before) (offer_of a)
meter_after-push m [] a = refl
meter_after-push m (b ∷ before) a = meter_after-push (after_any m (offer_of b)) before a

pub rows_from-push : (m : AnyMeter) (place : ℕ) (before : List Arrival) (a : Arrival)
    → rows_from m place (before ++ a ∷ []) ≡ rows_from m place before ++ row_of (meter_after m before) (place + length before) a ∷ []
rows_from-push m place [] a =
    let here : place ≡ place + 0 = omega arith in
    ap (λ p. row_of m p a ∷ []) here
rows_from-push m place (b ∷ before) a =
    let there : place + 1 + length before ≡ place + length (b ∷ before) = omega arith in
    ap (λ rows. row_of m place b ∷ rows) (rows_from-push (after_any m (offer_of b)) (place + 1) before a
    ∙ ap (λ p. rows_from (after_any m (offer_of b)) (place + 1) before ++ row_of (meter_after (after_any m (offer_of b)) before) p a ∷ []) there)

-- a replay has a row for each arrival
pub length-rows_from : (m : AnyMeter) (place : ℕ) (arrivals : List Arrival) → length (rows_from m place arrivals) ≡ length arrivals
length-rows_from m place [] = refl
length-rows_from m place (a ∷ more) = omega (arith, length-rows_from (after_any m (offer_of a)) (place + 1) more)

-- the arrivals of a replay's rows are those that were replayed
pub arrivals_of-rows_from : (m : AnyMeter) (place : ℕ) (arrivals : List Arrival) → arrivals_of (map stored_of (rows_from m place arrivals)) ≡ arrivals
arrivals_of-rows_from m place [] = refl
arrivals_of-rows_from m place (a ∷ more) = ap (λ rest. a ∷ rest) (arrivals_of-rows_from (after_any m (offer_of a)) (place + 1) more)

pub arrivals_of-push : (rows : List StoredRow) (row : StoredRow) → arrivals_of (rows ++ row ∷ []) ≡ arrivals_of rows ++ arrival_stored row ∷ []
arrivals_of-push rows row = map-append arrival_stored rows (row ∷ [])

-- what is stored of the rows of a meter, of which the first has a place
module _ (opening : AnyMeter) (first : ℕ) where
  -- the replay of one arrival more
  pub replay-push : (meter : AnyMeter) (rows : List StoredRow) (a : Arrival) → meter ≡ meter_after opening (arrivals_of rows)
      → rows_from opening first (arrivals_of (rows ++ stored_of (row_of meter (first + length rows) a) ∷ []))
      ≡ rows_from opening first (arrivals_of rows) ++ row_of meter (first + length rows) a ∷ []
  replay-push meter rows a met =
      let place : first + length (arrivals_of rows) ≡ first + length rows = omega (arith, length-map rows arrival_stored) in
      rw (arrivals_of-push rows (stored_of (row_of meter (first + length rows) a)), rows_from-push opening first (arrivals_of rows) a, place, ← met) refl

  -- what is stored of a replay and of the row of one arrival more is a replay
  pub replayed-push : (meter : AnyMeter) (rows : List StoredRow) (a : Arrival)
      → rows ≡ map stored_of (rows_from opening first (arrivals_of rows)) → meter ≡ meter_after opening (arrivals_of rows)
      → rows ++ stored_of (row_of meter (first + length rows) a) ∷ []
      ≡ map stored_of (rows_from opening first (arrivals_of (rows ++ stored_of (row_of meter (first + length rows) a) ∷ [])))
  replayed-push meter rows a replayed met =
      ap (λ front. front ++ stored_of (row_of meter (first + length rows) a) ∷ []) replayed
      ∙ sym (map-append stored_of (rows_from opening first (arrivals_of rows)) (row_of meter (first + length rows) a ∷ []))
      ∙ ap (map stored_of) (sym (replay-push meter rows a met))

pub met-push : (opening meter : AnyMeter) (rows : List StoredRow) (place : ℕ) (a : Arrival) → meter ≡ meter_after opening (arrivals_of rows)
    → after_any meter (offer_of a) ≡ meter_after opening (arrivals_of (rows ++ stored_of (row_of meter place a) ∷ []))
met-push opening meter rows place a met =
    rw (arrivals_of-push rows (stored_of (row_of meter place a)), meter_after-push opening (arrivals_of rows) a, ← met) refl

packets_counted : (picked : Colour → Bool) (rows : List Row) (row : Row) → picked row.left ≡ true
    → packets_left picked (rows ++ row ∷ []) ≡ packets_left picked rows + 1
packets_counted picked rows row e =
    let one : cond {A = ℕ} (picked row.left) 1 0 ≡ 1 = ap (λ b. cond {A = ℕ} b 1 0) e in
    omega (arith, sum_by-append (λ (r : Row). cond (picked r.left) 1 0) rows (row ∷ []))

packets_skipped : (picked : Colour → Bool) (rows : List Row) (row : Row) → picked row.left ≡ false
    → packets_left picked (rows ++ row ∷ []) ≡ packets_left picked rows
packets_skipped picked rows row e =
    let none : cond {A = ℕ} (picked row.left) 1 0 ≡ 0 = ap (λ b. cond {A = ℕ} b 1 0) e in
    omega (arith, sum_by-append (λ (r : Row). cond (picked r.left) 1 0) rows (row ∷ []))

bytes_counted : (picked : Colour → Bool) (rows : List Row) (row : Row) → picked row.left ≡ true
    → bytes_left picked (rows ++ row ∷ []) ≡ bytes_left picked rows + row.size
bytes_counted picked rows row e =
    let all : cond (picked row.left) row.size 0 ≡ row.size = ap (λ b. cond b row.size 0) e in
    omega (arith, sum_by-append (λ (r : Row). cond (picked r.left) r.size 0) rows (row ∷ []))

bytes_skipped : (picked : Colour → Bool) (rows : List Row) (row : Row) → picked row.left ≡ false
    → bytes_left picked (rows ++ row ∷ []) ≡ bytes_left picked rows
bytes_skipped picked rows row e =
    let none : cond (picked row.left) row.size 0 ≡ 0 = ap (λ b. cond b row.size 0) e in
    omega (arith, sum_by-append (λ (r : Row). cond (picked r.left) r.size 0) rows (row ∷ []))

tallies_of-push_left : (rows : List Row) (row : Row) (left : Colour) → left ≡ row.left → tallies_of (rows ++ row ∷ []) ≡ with_packet (tallies_of rows) left row.size
tallies_of-push_left rows row Green e =
    rw (packets_counted is_green rows row (ap is_green (sym e)), bytes_counted is_green rows row (ap is_green (sym e)), packets_skipped is_yellow rows row (ap is_yellow (sym e)), bytes_skipped is_yellow rows row (ap is_yellow (sym e)), packets_skipped is_red rows row (ap is_red (sym e)), bytes_skipped is_red rows row (ap is_red (sym e))) refl
tallies_of-push_left rows row Yellow e =
    rw (packets_skipped is_green rows row (ap is_green (sym e)), bytes_skipped is_green rows row (ap is_green (sym e)), packets_counted is_yellow rows row (ap is_yellow (sym e)), bytes_counted is_yellow rows row (ap is_yellow (sym e)), packets_skipped is_red rows row (ap is_red (sym e)), bytes_skipped is_red rows row (ap is_red (sym e))) refl
tallies_of-push_left rows row Red e =
    rw (packets_skipped is_green rows row (ap is_green (sym e)), bytes_skipped is_green rows row (ap is_green (sym e)), packets_skipped is_yellow rows row (ap is_yellow (sym e)), bytes_skipped is_yellow rows row (ap is_yellow (sym e)), packets_counted is_red rows row (ap is_red (sym e)), bytes_counted is_red rows row (ap is_red (sym e))) refl

-- the sums of one row more
pub tallies_of-push : (rows : List Row) (row : Row) → tallies_of (rows ++ row ∷ []) ≡ with_packet (tallies_of rows) row.left row.size
tallies_of-push rows row = tallies_of-push_left rows row row.left refl

-- the sums of one arrival more, behind what was summed before
pub counted-push : (before : Tallies) (opening meter : AnyMeter) (first : ℕ) (rows : List StoredRow) (a : Arrival) → meter ≡ meter_after opening (arrivals_of rows)
    → with_packet (together before (tallies_of (rows_from opening first (arrivals_of rows)))) (left_of meter (offer_of a)) a.size
    ≡ together before (tallies_of (rows_from opening first (arrivals_of (rows ++ stored_of (row_of meter (first + length rows) a) ∷ []))))
counted-push before opening meter first rows a met =
    together-packet before (tallies_of (rows_from opening first (arrivals_of rows))) (left_of meter (offer_of a)) a.size
    ∙ ap (together before) (sym (tallies_of-push (rows_from opening first (arrivals_of rows)) (row_of meter (first + length rows) a))
    ∙ ap tallies_of (sym (replay-push opening first meter rows a met)))
