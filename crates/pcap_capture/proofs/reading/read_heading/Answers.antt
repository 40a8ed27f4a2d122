use Rattle.std.proofs.Common.{◌≡◌, ◌++◌, Some, Ok, Err, None, ap, arith, drop, length, refl, subst, sym, ◌∙◌}
use Rattle.std.proofs.lemmas.Result.{err_from_is_err_and}
use Rattle.pcap_capture.specs.Grammar.{Reading, Stops, capture, heading_of, prepend, records}
use Rattle.pcap_capture.specs.declared.stage.Stage.TheVariants.{Opening}
use Rattle.pcap_capture.proofs.HeadingLaws.{capture_by, heading_read, kept_stopped, kept_waiting}
use Rattle.pcap_capture.proofs.reading.read_heading.Goals as goal

pub returns-in-None-clause-ok : goal.returns-in-None-clause-ok
returns-in-None-clause-ok c =
    let rest = c.args.rest.now in
    kept_waiting Opening rest c.args.out.now (capture rest) (prepend c.args.out.now (capture rest))
    (capture_by rest None (c.in-None.ensures ∙ ap heading_of c.as_slice.ensures)) refl

pub returns-in-Some-Err-clause-err : goal.returns-in-Some-Err-clause-err
returns-in-Some-Err-clause-err c =
    let rest = c.args.rest.now in
    let known = rw c.in-Some-Err.field-0-is at c.in-Some-Err.ensures in
    kept_stopped c.in-Some-Err.fault c.args.out.now (capture rest)
    (capture_by rest (Some (Err c.in-Some-Err.fault)) (known ∙ ap heading_of c.as_slice.ensures))

pub split_at-requires : goal.split_at-requires
split_at-requires c =
    let known = rw c.in-Some-Ok.field-0-is at c.in-Some-Ok.ensures in
    let there = heading_read c.args.rest.now c.in-Some-Ok.heading (sym (known ∙ ap heading_of c.as_slice.ensures)) in
    omega (arith, there, ap length c.as_slice-in-Some-Ok.ensures)

pub returns-in_ok-read-in-Some-Ok-clause-ok : goal.returns-in_ok-read-in-Some-Ok-clause-ok
returns-in_ok-read-in-Some-Ok-clause-ok c =
    let rest = c.args.rest.now in
    let known = rw c.in-Some-Ok.field-0-is at c.in-Some-Ok.ensures in
    let read = capture_by rest (Some (Ok c.in-Some-Ok.heading)) (known ∙ ap heading_of c.as_slice.ensures) in
    let behind : c.append.new.self ≡ drop 24 rest =
    c.in-Ok.ensures ∙ ap (λ bytes. bytes ++ c.split_at.result.1.now) c.new-records.ensures ∙ c.split_at.ensures.back ∙ ap (drop 24) c.as_slice-in-Some-Ok.ensures in
    c.in_ok-read-in-Some-Ok.ensures.ok ∙ ap (prepend c.args.out.now) (ap (records c.in-Some-Ok.heading) behind ∙ sym read)

pub returns-in_err-read-in-Some-Ok-clause-err : goal.returns-in_err-read-in-Some-Ok-clause-err
returns-in_err-read-in-Some-Ok-clause-err c =
    let rest = c.args.rest.now in
    let known = rw c.in-Some-Ok.field-0-is at c.in-Some-Ok.ensures in
    let read = capture_by rest (Some (Ok c.in-Some-Ok.heading)) (known ∙ ap heading_of c.as_slice.ensures) in
    let behind : c.append.new.self ≡ drop 24 rest =
    c.in-Ok.ensures ∙ ap (λ bytes. bytes ++ c.split_at.result.1.now) c.new-records.ensures ∙ c.split_at.ensures.back ∙ ap (drop 24) c.as_slice-in-Some-Ok.ensures in
    let p = err_from_is_err_and c.from_residual.result c.from_residual.ensures.1 in
    rw (p.1, p.2) (subst (λ (r : Reading). Stops (prepend c.args.out.now r) c.read.new.self c.in_err-read-in-Some-Ok.field-0.0)
    (ap (records c.in-Some-Ok.heading) behind ∙ sym read) c.in_err-read-in-Some-Ok.ensures.err)
