use Rattle.std.proofs.Common.{◌∙◌, ap, subst, sym, map-id}
use Rattle.meter_book.specs.Replay.{journal_rows}
use Rattle.run_audit.specs.Verdicts.{by_site, first_found, late_row}
use Rattle.run_audit.proofs.LeastLaws.{least_ended, least_more, least_start}
use Rattle.run_audit.proofs.SortLaws.{Differ}
use Rattle.run_audit.proofs.skews.first_late.Goals as goal

pub loop-journal-init : goal.loop-journal-init
loop-journal-init c = least_start (λ j. j.site) (λ j. first_found (late_row j) (journal_rows j)) (λ j. j) c.args.journals.now

pub loop-journal-preserved : goal.loop-journal-preserved
loop-journal-preserved c =
    least_more (λ j. j.site) (λ j. first_found (late_row j) (journal_rows j)) (λ j. j) c.args.journals.now c.loop-journal.journal-index c.journal-item.result
    c.loop-journal.least _ c.from.result c.late_in.result c.loop-journal-test.true c.journal-item.is (c.from.ensures ∙ c.site.ensures) c.late_in.ensures c.lesser-least.ensures
    c.loop-journal.invariant

pub returns : goal.returns
returns c =
    let whole = map-id c.args.journals.now in
    c.told.ensures
    ∙ least_ended (λ j. j.site) (λ j. first_found (late_row j) (journal_rows j)) (λ j. j) c.args.journals.now c.loop-journal.journal-index c.loop-journal.least c.loop-journal-test.false
    (subst (Differ (λ j. j.site)) (sym whole) c.requires) c.loop-journal.invariant
    ∙ ap (λ js. first_found (λ j. first_found (late_row j) (journal_rows j)) (by_site js)) whole
