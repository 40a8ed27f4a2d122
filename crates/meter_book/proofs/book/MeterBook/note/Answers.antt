use Rattle.std.proofs.Common.{◌≡◌, ◌+◌, [], ◌∷◌, ◌++◌, None, length, length-append, arith, refl, sym, ◌∙◌, ap}
use Rattle.std.proofs.lemmas.List.{length-map}
use Rattle.meter_book.specs.Kept.{arrival_stored, arrivals_of, book_of, stored_of}
use Rattle.meter_book.specs.Replay.{note_fault, offer_of, row_of, standing_of}
use Rattle.meter_book.specs.Tallies.{packets_in, tallies_in}
use Rattle.meter_book.proofs.ReplayLaws.{counted-push, met-push, replayed-push}
use Rattle.meter_book.proofs.StandingLaws.{has_capacity, has_place, newest_before, not_shut}
use Rattle.meter_book.proofs.TallyLaws.{packets_in-packet}
use Rattle.meter_book.proofs.book.MeterBook.note.Goals as goal

pub invariant_of-self-2 : goal.invariant_of-self-2
invariant_of-self-2 c =
    let i = c.self.inside in
    let v = c.self.invariant in
    let a = c.args.arrival in
    let at = i.opening.place + length i.rows.items in
    let none : note_fault (book_of i) a.moment ≡ None = ap (λ b. note_fault b a.moment) c.self.view_is ∙ sym c.fault_at.ensures ∙ c.in_default.is in
    let count : length (arrivals_of i.rows.items) ≡ length i.rows.items = length-map i.rows.items arrival_stored in
    let place : c.next_place-place.result ≡ at = omega (arith, c.next_place-place.ensures.value, ap (λ b. (standing_of b).place) c.self.view_is, count) in
    let row : c.row-row.result ≡ row_of i.meter at a = c.row-row.ensures.row ∙ ap (λ p. row_of i.meter p a) place in
    let rows : c.push.new.self.items ≡ i.rows.items ++ stored_of (row_of i.meter at a) ∷ [] =
    rw c.unwrap.ensures at c.push.ensures.items ∙ rw (c.reserve.ensures.items, c.of-stored.ensures, row) refl in
    let pushed : length c.push.new.self.items ≡ length i.rows.items + 1 = ap length rows ∙ omega (arith, length-append i.rows.items (stored_of (row_of i.meter at a) ∷ [])) in
    record {
      opened = v.opened;
      replayed = rw rows (replayed-push i.opening.meter i.opening.place i.meter i.rows.items a v.replayed v.meter);
      meter = c.row-row.ensures.after ∙ rw rows (met-push i.opening.meter i.meter i.rows.items at a v.meter);
      counted = c.add.ensures.added ∙ rw (row, rows, v.counted) (counted-push (tallies_in i.opening.accounts) i.opening.meter i.meter i.opening.place i.rows.items a v.meter);
      packets = omega (arith, ap packets_in c.add.ensures.added, packets_in-packet i.tallies c.row-row.result.left c.row-row.result.size, v.packets, pushed);
      sized = c.add.ensures.sized;
      filled = omega (arith, has_capacity (book_of i) a.moment none, count, pushed);
      limit = v.limit;
      places = omega (arith, has_place (book_of i) a.moment none, count, pushed);
      before = rw c.row-row.ensures.after (newest_before i.meter (offer_of a) i.shut v.before (not_shut (book_of i) a.moment none));
      stays = v.stays;
    }
