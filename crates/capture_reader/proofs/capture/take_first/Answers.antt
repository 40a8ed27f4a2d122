use Rattle.std.proofs.Common.{◌≡◌, ℕ, false, None, Some, Err, refl, inl, inr}
use Rattle.pcap_capture.specs.Takings.{is_read_fault}
use Rattle.pcap_capture.proofs.OwnLaws.{own_unread}
use Rattle.capture_reader.proofs.CaptureLaws.{first_taken}
use Rattle.capture_reader.specs.Formats.{Unopened}
use Rattle.capture_reader.proofs.OwnLaws.{stops_own}
use Rattle.capture_reader.proofs.capture.take_first.Goals as goal

pub returns-in-Ok-opened-clause-taken : goal.returns-in-Ok-opened-clause-taken
returns-in-Ok-opened-clause-taken g c =
    let it = rw c.in-Ok-answer.is at c.in-Ok.ensures.ok in record {
      told = c.in-Ok.ensures.told;
      ok =
          first_taken _ c.args.most c.in-Ok-answer.taken _ _ it.0 c.args.rest _ _ c.args.out.now c.opened.new.out None it.3 it.1 it.2 it.4 c.in-Ok-opened.ensures.ok;
      err = tt;
      end = λ tells is. c.in-Ok.ensures.end tells cc;
      reads = rw c.in-Ok-answer.is at c.in-Ok.ensures.reads;
      fewer = inl (rw c.in-Ok-answer.is at c.in-Ok.ensures.fewer);
      no_more = c.in-Ok.ensures.no_more;
    }

pub returns-in-Err-clause-taken : goal.returns-in-Err-clause-taken
returns-in-Err-clause-taken g c =
    let it = rw c.in-Ok-answer.is at c.in-Ok.ensures.ok in
    let fault = c.in-Err.fault in
    let unread : is_read_fault {T = ℕ} (Err fault) ≡ false = own_unread fault (stops_own Unopened _ c.args.out.now c.opened.new.out fault c.in-Err.ensures.err) in record {
      told = c.in-Ok.ensures.told;
      ok = tt;
      err = inr
          (first_taken _ c.args.most c.in-Ok-answer.taken _ _ it.0 c.args.rest _ _ c.args.out.now c.opened.new.out (Some fault) it.3 it.1 it.2 it.4 (refl, c.in-Err.ensures.err)).0;
      end = λ tells is. cc;
      reads = rw unread (rw c.in-Ok-answer.is at c.in-Ok.ensures.reads);
      fewer = inl (rw c.in-Ok-answer.is at c.in-Ok.ensures.fewer);
      no_more = c.in-Ok.ensures.no_more;
    }
