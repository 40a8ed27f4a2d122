use Rattle.std.proofs.Common.{ap, ◌∙◌}
use Rattle.pcap_capture.proofs.CountLaws.{reads_from}
use Rattle.ds_marking.specs.Passings.{is_unread_by}
use Rattle.ds_marking.specs.declared.marking.Turn.TheVariants.{Ended}
use Rattle.ds_conductor.proofs.working.turn_all_by.Goals as goal

pub returns-in-Ended-clause-taken : goal.returns-in-Ended-clause-taken
returns-in-Ended-clause-taken g c =
    let was = c.loop-alone.invariant in
    let one = c.take_turn_by-turn.ensures.taken in
    let well = rw c.in-Ok.is at one.fault in record {
      bounded = one.ready.bounded;
      port = one.port ∙ was.port;
      turned = λ given tells bytes first at. rw c.in-Ended.is at (rw c.in-Ok.is at (one.turned (was.given given) (was.told tells) bytes first (was.passing given tells bytes first at)));
      reads = reads_from (is_unread_by c.in-Ended.fault) _ _ _ _ was.unfailed (rw c.in-Ended.is at (rw c.in-Ok.is at one.reads));
      fault = (λ e. well.0 (c.in-Ended.is ∙ ap Ended e), λ e. well.1 (c.in-Ended.is ∙ ap Ended e));
      told = λ tells. one.told (was.told tells);
    }

pub returns-in-Err-clause-taken : goal.returns-in-Err-clause-taken
returns-in-Err-clause-taken g c =
    let was = c.loop-alone.invariant in
    let one = c.take_turn_by-turn.ensures.taken in record {
      bounded = one.ready.bounded;
      port = one.port ∙ was.port;
      turned = λ given tells bytes first at. rw c.in-Err.is at (one.turned (was.given given) (was.told tells) bytes first (was.passing given tells bytes first at));
      reads = tt;
      fault = rw c.in-Err.is at one.fault;
      told = λ tells. one.told (was.told tells);
    }
