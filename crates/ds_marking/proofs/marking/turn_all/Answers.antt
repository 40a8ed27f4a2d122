use Rattle.std.proofs.Common.{ap, ◌∙◌}
use Rattle.std.proofs.lemmas.Result.{err_from_is_err_and}
use Rattle.pcap_capture.proofs.CountLaws.{reads_from}
use Rattle.ds_marking.specs.Passings.{is_unread_by}
use Rattle.ds_marking.specs.declared.marking.Turn.TheVariants.{Ended}
use Rattle.ds_marking.proofs.marking.turn_all.Goals as goal

pub returns-in-Ended-clause-taken : goal.returns-in-Ended-clause-taken
returns-in-Ended-clause-taken g c =
    let was = c.loop-fault.invariant in
    let one = c.in_ok-take_turn.ensures.taken in record {
      bounded = one.ready.bounded;
      port = one.port ∙ was.port;
      turned = λ given tells bytes first at.
          rw c.in-Ended.is at (one.turned (was.given given) (was.told tells) bytes first (was.passing given tells bytes first at));
      reads = reads_from (is_unread_by c.in-Ended.fault) _ _ _ _ was.unfailed (rw c.in-Ended.is at one.reads);
      fault = (λ e. one.fault.0 (c.in-Ended.is ∙ ap Ended e), λ e. one.fault.1 (c.in-Ended.is ∙ ap Ended e));
      told = λ tells. one.told (was.told tells);
    }

pub returns-in_err-take_turn-clause-taken : goal.returns-in_err-take_turn-clause-taken
returns-in_err-take_turn-clause-taken g c =
    let was = c.loop-fault.invariant in
    let one = c.in_err-take_turn.ensures.taken in
    let q = err_from_is_err_and c.from_residual.result c.from_residual.ensures.1 in
    rw (q.1, q.2) (record {
      bounded = one.ready.bounded;
      port = one.port ∙ was.port;
      turned = λ given tells bytes first at. one.turned (was.given given) (was.told tells) bytes first (was.passing given tells bytes first at);
      reads = tt;
      fault = one.fault;
      told = λ tells. one.told (was.told tells);
    })
