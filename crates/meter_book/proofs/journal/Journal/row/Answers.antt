use Rattle.std.proofs.Common.{◌∙◌, arith}
use Rattle.meter_book.specs.Kept.{arrivals_of}
use Rattle.meter_book.proofs.StoredRowLaws.{row_at-replay, stored_on_time}
use Rattle.meter_book.proofs.journal.Journal.row.Goals as goal

pub row_among-requires : goal.row_among-requires
row_among-requires c =
    let i = c.self.inside in
    record {
      on_time = rw c.as_slice.ensures.value (stored_on_time i.opening 0 (arrivals_of i.rows.items) i.rows.items c.self.invariant.replayed);
      places = λ within. omega (arith, c.ranges.place.fits);
    }

pub returns : goal.returns
returns c =
    let i = c.self.inside in
    c.row_among.ensures ∙ rw (c.as_slice.ensures.value, ← c.self.view_is)
    (row_at-replay i.opening 0 (arrivals_of i.rows.items) i.rows.items c.args.place c.self.invariant.replayed)
