use Rattle.std.proofs.Common.{Some, Err, ◌≡◌, ap, sym, ◌∙◌}
use Rattle.capture_reader.specs.Formats.{Unopened, after_opening, capture, opening_of}
use Rattle.capture_reader.proofs.CaptureLaws.{kept_stopped, kept_waiting}
use Rattle.capture_reader.proofs.capture.opened.Goals as goal

pub returns-in-None-clause-ok : goal.returns-in-None-clause-ok
unfolding capture
returns-in-None-clause-ok c =
    kept_waiting Unopened c.args.rest c.args.out.now (capture c.args.rest)
    (ap (after_opening c.args.rest) (sym (sym c.in-None.is ∙ c.opening_at_front.ensures ∙ ap opening_of c.as_slice.ensures)))

pub returns-in-Some-Err-clause-err : goal.returns-in-Some-Err-clause-err
unfolding capture
returns-in-Some-Err-clause-err c =
    kept_stopped c.in-Some-Err.fault c.args.out.now (capture c.args.rest)
    (let seen : opening_of c.args.rest ≡ Some (Err c.in-Some-Err.fault) = cc in ap (after_opening c.args.rest) seen)
