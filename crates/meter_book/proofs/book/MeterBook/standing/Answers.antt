use Rattle.std.proofs.Common.{◌<◌, subst}
use Rattle.std.specs.Prelude.{IfSome}
use Rattle.meter_book_base.specs.AnyMeter.{newest_of}
use Rattle.meter_book.specs.Kept.{arrivals_of}
use Rattle.meter_book.proofs.StandingLaws.{rows_before}
use Rattle.meter_book.proofs.book.MeterBook.standing.Goals as goal

pub returns-clause-before : goal.returns-clause-before
returns-clause-before c =
    let i = c.self.inside in
    rw (← c.self.view_is) (rows_before i.opening.meter i.opening.place (arrivals_of i.rows.items) i.shut
    (subst (λ m. IfSome i.shut (λ end. newest_of m < end)) c.self.invariant.meter c.self.invariant.before))
