use Rattle.std.proofs.Common.{◌+◌, ◌≤◌, drop, length, refl, ap, arith, sym, ◌∙◌}
use Rattle.std.proofs.lemmas.Result.{err_from_is_err_and}
use Rattle.pcap_capture.specs.Grammar.{place_of, record_size}
use Rattle.pcap_capture.specs.Pieces.{frames_between}
use Rattle.pcap_capture.proofs.GrammarLaws.{size_least, size_most, size_partial}
use Rattle.pcap_capture.proofs.PieceLaws.{cut_within}
use Rattle.pcap_capture.proofs.RecordLaws.{pushed, stops_long}
use Rattle.pcap_capture.proofs.record.read_records.Goals as goal

pub loop-size-init : goal.loop-size-init
loop-size-init c = record {
  at = refl;
  within = (cut_within c.args.text.now 0 c.args.entries.now.items c.args.end.now c.requires).1;
  cut = c.requires;
  same = refl;
}

pub returns-in_err-size-clause-err : goal.returns-in_err-size-clause-err
returns-in_err-size-clause-err c =
    let text = c.args.text.now in
    let left = c.split_at.ensures.back ∙ ap (λ place. drop place text) c.loop-size.invariant.at in
    let p = err_from_is_err_and c.from_residual.result c.from_residual.ensures.1 in
    rw (p.1, p.2) (stops_long c.args.heading.now (drop c.loop-size.end text) (frames_between text 0 c.loop-size.entries.items) c.in_err-size.field-0.0 _
    (c.in_err-size.ensures ∙ ap (record_size c.args.heading.now) left) c.loop-size.invariant.same)

pub returns-then-left-size-clause-settled : goal.returns-then-left-size-clause-settled
returns-then-left-size-clause-settled c =
    let text = c.args.text.now in
    let left = c.split_at.ensures.back ∙ ap (λ place. drop place text) c.loop-size.invariant.at in
    let short = c.if-left-size.true in
    size_partial c.args.heading.now (drop c.loop-size.end text) c.in_ok-size.size
    (sym (c.in_ok-size.ensures ∙ ap (record_size c.args.heading.now) left)) (omega (arith, ap length left, short))

pub place_of_record-place-requires-clause-long : goal.place_of_record-place-requires-clause-long
place_of_record-place-requires-clause-long c =
    let least = size_least c.args.heading.now _ c.in_ok-size.size (sym c.in_ok-size.ensures) in
    let whole = c.if-left-size.false in
    omega (arith, least, whole)

pub place_of_record-place-requires-clause-least : goal.place_of_record-place-requires-clause-least
place_of_record-place-requires-clause-least c = size_least c.args.heading.now _ c.in_ok-size.size (sym c.in_ok-size.ensures)

pub place_of_record-place-requires-clause-most : goal.place_of_record-place-requires-clause-most
place_of_record-place-requires-clause-most c = size_most c.args.heading.now _ c.in_ok-size.size (sym c.in_ok-size.ensures)

pub loop-size-smaller : goal.loop-size-smaller
loop-size-smaller c =
    let least = size_least c.args.heading.now _ c.in_ok-size.size (sym c.in_ok-size.ensures) in
    let whole = c.if-left-size.false in
    let within = c.loop-size.invariant.within in
    omega (arith, least, whole, within, c.split_at.ensures.back_len)

pub loop-size-preserved : goal.loop-size-preserved
loop-size-preserved c =
    let text = c.args.text.now in
    let left = c.split_at.ensures.back ∙ ap (λ place. drop place text) c.loop-size.invariant.at in
    let least = size_least c.args.heading.now _ c.in_ok-size.size (sym c.in_ok-size.ensures) in
    let whole = c.if-left-size.false in
    let at = c.loop-size.invariant.at in
    let within : c.loop-size.start + c.in_ok-size.size ≤ length text = omega (arith, whole, c.split_at.ensures.back_len, c.loop-size.invariant.within) in
    let size = c.in_ok-size.ensures ∙ ap (record_size c.args.heading.now) left in
    let place = c.place_of_record-place.ensures ∙ ap (λ bytes. place_of c.args.heading.now bytes c.in_ok-size.size) left in
    let more = pushed c.args.heading.now text c.loop-size.entries.items c.loop-size.end c.in_ok-size.size _ c.loop-size.invariant.cut size
    (omega arith) c.loop-size.invariant.same
    (record { end = c.loop-size.start + c.in_ok-size.size; place = c.place_of_record-place.result }) (ap (λ place. place + c.in_ok-size.size) at) place in
    record {
      at = refl;
      within = within;
      cut = rw c.in-Ok.ensures.items more.0;
      same = rw c.in-Ok.ensures.items more.1;
    }
