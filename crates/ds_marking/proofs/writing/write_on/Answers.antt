use Rattle.std.proofs.Common.{List, ℕ}
use Rattle.std.proofs.lemmas.Result.{err_from_is_err_and}
use Rattle.capture_reader.specs.Formats.{bytes_before}
use Rattle.ds_conditioner.specs.Conditionings.{IsConditioned}
use Rattle.ds_marking.proofs.WritingLaws.{handed}
use Rattle.ds_marking.proofs.writing.write_on.Goals as goal

pub returns-in_err-write_decided-clause-bytes : goal.returns-in_err-write_decided-clause-bytes
returns-in_err-write_decided-clause-bytes g c = λ tells more frames text before at written.
    let q = err_from_is_err_and c.from_residual.result c.from_residual.ensures.1 in
    rw q.1 (c.in_err-write_decided.ensures.bytes tells more frames text before at written)

pub returns-clause-bytes : goal.returns-clause-bytes
returns-clause-bytes g c = λ tells more frames text before at written.
    let so_far = c.in_ok-write_decided.ensures.bytes tells more frames text before at written in
    let p = c.args.port.now in
    handed (λ (shown : List ℕ). IsConditioned p more frames shown c.write_decided.new.conditioner) c.write_out.result (bytes_before p.opening) so_far.0 _ _ before _ _ so_far.1 so_far.2
    (c.write_out.ensures.bytes (c.in_ok-write_decided.ensures.told tells)) c.write_out.ensures.emptied
