use Rattle.std.proofs.Common.{arith, sym, ◌∙◌}
use Rattle.std.proofs.lemmas.Option.{get_or_from_slice_get}
use Rattle.meter_book.specs.Replay.{journal_rows}
use Rattle.meter_book.proofs.ReplayLaws.{length-rows_from}
use Rattle.run_audit.specs.Verdicts.{late_row}
use Rattle.run_audit.proofs.FoundLaws.{first_found-over, found-next, is_there}
use Rattle.run_audit.proofs.skews.late_in.Goals as goal

pub unwrap-row-requires : goal.unwrap-row-requires
unwrap-row-requires c =
    let j = c.args.journal.now in
    is_there c.row.result (journal_rows j) c.loop-place.place (omega (arith, c.loop-place-test.true, c.len-place-end.ensures, length-rows_from j.opening 0 j.arrivals)) c.row.ensures

pub returns-then-is_some : goal.returns-then-is_some
returns-then-is_some c =
    let j = c.args.journal.now in
    (found-next (late_row j) (journal_rows j) c.loop-place.place c.unwrap-row.result c.late_row-late.result _ c.is_some.result
    (omega (arith, c.loop-place-test.true, c.len-place-end.ensures, length-rows_from j.opening 0 j.arrivals))
    (sym (get_or_from_slice_get (journal_rows j) c.loop-place.place c.unwrap-row.result c.unwrap-row.result (sym c.row.ensures ∙ c.unwrap-row.ensures)))
    c.late_row-late.ensures c.is_some.ensures c.loop-place.invariant).0 c.if-is_some.true

pub loop-place-preserved : goal.loop-place-preserved
loop-place-preserved c =
    let j = c.args.journal.now in
    (found-next (late_row j) (journal_rows j) c.loop-place.place c.unwrap-row.result c.late_row-late.result _ c.is_some.result
    (omega (arith, c.loop-place-test.true, c.len-place-end.ensures, length-rows_from j.opening 0 j.arrivals))
    (sym (get_or_from_slice_get (journal_rows j) c.loop-place.place c.unwrap-row.result c.unwrap-row.result (sym c.row.ensures ∙ c.unwrap-row.ensures)))
    c.late_row-late.ensures c.is_some.ensures c.loop-place.invariant).1 c.if-is_some.false

pub returns : goal.returns
returns c =
    let j = c.args.journal.now in
    sym (first_found-over (late_row j) (journal_rows j) c.loop-place.place (omega (arith, c.loop-place-test.false, c.len-place-end.ensures, length-rows_from j.opening 0 j.arrivals)))
    ∙ c.loop-place.invariant
