use Rattle.std.proofs.Common.{◌∙◌, List, ap, refl, sym, option_map, slice_get, option_copied}
use Rattle.std.proofs.lemmas.Option.{slice_get_past, slice_get_read}
use Rattle.ds_timeline.specs.declared.reservation.Reservation.{Reservation}
use Rattle.run_audit.proofs.BasisLaws.{line_counted, value_along}
use Rattle.run_audit.proofs.basis.granted.Goals as goal

pub returns-in_err-reservation-clause-value : goal.returns-in_err-reservation-clause-value
returns-in_err-reservation-clause-value c =
    let rs = c.args.timeline.now.reservations in
    let same = ap (λ (all : List Reservation). slice_get all c.args.flow) (sym c.reservations.ensures.value) in
    let none = same ∙ slice_get_past c.reservations.result.now c.args.flow c.in_err-reservation.ensures.lookup.3 in
    ap option_copied c.from_residual.ensures ∙ sym (value_along rs c.args.flow ∙ ap (option_map (λ (r : Reservation). r.contract)) none)

pub returns-in_err-reservation-clause-counted : goal.returns-in_err-reservation-clause-counted
returns-in_err-reservation-clause-counted c =
    line_counted c.args.timeline.now (rw c.reservations.ensures.value at c.reservations.ensures.numbered)

pub returns-clause-value : goal.returns-clause-value
returns-clause-value c =
    let rs = c.args.timeline.now.reservations in
    let r = c.in_ok-reservation.reservation.now in
    let same = ap (λ (all : List Reservation). slice_get all c.args.flow) (sym c.reservations.ensures.value) in
    let there = same ∙ slice_get_read c.reservations.result.now _ c.args.flow r refl c.in_ok-reservation.ensures.lookup.3.0 c.in_ok-reservation.ensures.lookup.1 in
    sym (value_along rs c.args.flow ∙ ap (option_map (λ (x : Reservation). x.contract)) there)

pub returns-clause-counted : goal.returns-clause-counted
returns-clause-counted c = line_counted c.args.timeline.now (rw c.reservations.ensures.value at c.reservations.ensures.numbered)
