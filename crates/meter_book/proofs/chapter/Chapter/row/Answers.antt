use Rattle.std.proofs.Common.{◌∙◌, ap, arith, length}
use Rattle.std.proofs.lemmas.List.{length-map}
use Rattle.meter_book.specs.Kept.{arrival_stored, arrivals_of}
use Rattle.meter_book.proofs.StoredRowLaws.{row_at-replay, stored_on_time}
use Rattle.meter_book.proofs.chapter.Chapter.row.Goals as goal

pub row_among-requires : goal.row_among-requires
row_among-requires c =
    let i = c.self.inside in
    let leads = c.self.invariant.leads in
    record {
      on_time = rw c.as_slice.ensures.value (stored_on_time i.opening.meter i.opening.place (arrivals_of i.rows.items) i.rows.items c.self.invariant.replayed);
      places = λ within. omega (arith, leads.closed.placed, ap (λ s. s.place) leads.replayed, length-map i.rows.items arrival_stored, within, ap length c.as_slice.ensures.value);
    }

pub returns : goal.returns
returns c =
    let i = c.self.inside in
    c.row_among.ensures ∙ rw (c.as_slice.ensures.value, ← c.self.view_is)
    (row_at-replay i.opening.meter i.opening.place (arrivals_of i.rows.items) i.rows.items c.args.index c.self.invariant.replayed)
