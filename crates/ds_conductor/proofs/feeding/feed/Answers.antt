use Rattle.std.proofs.Common.{◌≡◌, ◌++◌, ◌∷◌, [], List, Result, Err, length, length-append, append_assoc, sym, ap, subst, ◌∙◌, arith}
use Rattle.pcap_capture.proofs.CountLaws.{reads_from}
use Rattle.pcap_capture.specs.Frames.{FrameValue}
use Rattle.pcap_capture.specs.Takings.{is_read_fault}
use Rattle.ds_conductor.specs.Lanings.{count_of, frames_of}
use Rattle.capture_reader.specs.Readings.{IsUnderway, read_by}
use Rattle.ds_marking.specs.Writings.{failures_with, is_write_fault}
use Rattle.ds_marking.specs.declared.fault.MarkFault.{MarkFault}
use Rattle.ds_conductor.proofs.LaningLaws.{count_of-more, frames_of-more, right_more, sooner, text_front, text_more}
use Rattle.ds_conductor.proofs.feeding.feed.Goals as goal

pub returns-in-Err-clause-fed : goal.returns-in-Err-clause-fed
returns-in-Err-clause-fed g c =
    let was = c.loop.invariant in record {
      fed = record { right = was.right; read = was.read; stays = was.stays };
      given = was.given;
      missing = was.missing;
      fewer = tt;
      reads = tt;
      no_write = tt;
    }

pub returns-in-Err-clause-written : goal.returns-in-Err-clause-written
returns-in-Err-clause-written g c =
    let was = c.loop.invariant in
    let text = c.write_next.ensures.text in
    let unwritten : Result (Unit {0}) MarkFault = Err c.in-Err.fault in record {
      told = λ tells. c.write_next.ensures.told (was.told tells);
      written = λ tells. text_front (g.O.Outlet.held c.args.outlet.now) c.loop.between.from.taken _ text.0 _ _ text.1 (was.written tells) ((rw c.in-Err.is at text.2) (was.told tells));
      fault = c.in-Err.ensures.fault;
      failures = c.in-Err.ensures.failures ∙ ap (failures_with (is_write_fault unwritten)) was.failures;
    }

pub loop-preserved-in_default : goal.loop-preserved-in_default
loop-preserved-in_default g c =
    let was = c.loop.invariant in
    let text = c.write_next.ensures.text in record {
      next = tt;
      finite = tt;
      to = was.to;
      from = c.write_next.ensures.lane ∙ was.from;
      missing = was.missing;
      pieces = was.pieces;
      calls = was.calls;
      even =
          let a = ap length text.1 in
          let b = length-append c.loop.between.from.taken (text.0 ∷ []) in
          let n = was.even in
          let full = c.if-way-eq-MOST_ON_WAY.true in
          omega (arith, a, b, n, full);
      most = let n = was.most in omega (arith, n);
      right = was.right;
      read = was.read;
      stays = was.stays;
      given = was.given;
      told = λ tells. c.write_next.ensures.told (was.told tells);
      written = λ tells. text_more (g.O.Outlet.held c.args.outlet.now) c.loop.between.from.taken _ text.0 _ _ text.1 (was.written tells) ((rw c.in_default.is at text.2) (was.told tells));
      unfailed = was.unfailed;
      failures = c.in_default.ensures.failures ∙ was.failures;
    }

pub loop-preserved : goal.loop-preserved
loop-preserved g c =
    let was = c.loop.invariant in
    let lot = c.lot_of-lot.result in
    let items : lot.frames ≡ c.read_one.new.progress.piece = c.lot_of-lot.ensures.frames ∙ c.change_piece-piece.ensures.taken in
    let more : frames_of c.send.new.self.put ≡ frames_of c.loop.between.to.put ++ lot.frames = ap frames_of c.send.ensures.put ∙ frames_of-more c.loop.between.to.put lot in record {
      next = tt;
      finite = tt;
      to = c.send.ensures.lane ∙ was.to;
      from = was.from;
      missing = let a = c.change_piece-piece.ensures.missing in let b = c.read_one.ensures.missing in let n = was.missing in omega (arith, a, b, n);
      pieces = omega arith;
      calls = let a = rw c.in-Full.is at c.read_one.ensures.fewer in let n = was.calls in omega (arith, a, n);
      even =
          let a = ap count_of c.send.ensures.put ∙ count_of-more c.loop.between.to.put lot in
          let n = was.even in
          omega (arith, a, n);
      most = let n = was.most in let full = c.if-way-eq-MOST_ON_WAY.false in omega (arith, n, full);
      right = right_more c.args.shift.now.port.now c.loop.between.to.put _ lot c.send.ensures.put was.right c.lot_of-lot.ensures.seen;
      read = λ gone bytes given at.
          let under = rw c.in-Full.is at (c.read_one.ensures.read (gone ++ frames_of c.loop.between.to.put) bytes (was.given given) (was.read gone bytes given at)) in
          subst (λ (fs : List FrameValue). IsUnderway fs bytes (g.I.Intake.left c.read_one.new.intake) c.change_piece-piece.new.self)
          (append_assoc gone (frames_of c.loop.between.to.put) c.change_piece-piece.result ∙ ap (λ fs. gone ++ fs) (ap (λ fs. frames_of c.loop.between.to.put ++ fs) (sym c.lot_of-lot.ensures.frames) ∙ sym more))
          (c.change_piece-piece.ensures.read (gone ++ frames_of c.loop.between.to.put) bytes _ under);
      stays = λ opening gone bytes given at headed.
          let under = was.read gone bytes given at in
          let head = was.stays opening gone bytes given at headed in
          c.change_piece-piece.ensures.opening ∙ c.read_one.ensures.stays opening (sym under.known ∙ head) head;
      given = λ given. c.read_one.ensures.told (was.given given);
      told = was.told;
      written = was.written;
      unfailed = rw c.in-Full.is at c.read_one.ensures.reads ∙ was.unfailed;
      failures = was.failures;
    }

pub loop-preserved-then-pieces-lt-PIECES : goal.loop-preserved-then-pieces-lt-PIECES
loop-preserved-then-pieces-lt-PIECES g c =
    let was = c.loop.invariant in
    let one = c.read_one.ensures in record {
      next = tt;
      finite = tt;
      to = was.to;
      from = was.from;
      missing = let a = one.missing in let n = was.missing in omega (arith, a, n);
      pieces = let n = c.if-pieces-lt-PIECES.true in omega (arith, n);
      calls = let a = rw c.in-Full.is at one.fewer in let n = was.calls in omega (arith, a, n);
      even = was.even;
      most = was.most;
      right = was.right;
      read = λ gone bytes given at. rw c.in-Full.is at (one.read (gone ++ frames_of c.loop.between.to.put) bytes (was.given given) (was.read gone bytes given at));
      stays = λ opening gone bytes given at headed.
          let under = was.read gone bytes given at in
          let head = was.stays opening gone bytes given at headed in
          one.stays opening (sym under.known ∙ head) head;
      given = λ given. one.told (was.given given);
      told = was.told;
      written = was.written;
      unfailed = rw c.in-Full.is at one.reads ∙ was.unfailed;
      failures = was.failures;
    }

pub returns-in_default-read_one : goal.returns-in_default-read_one
returns-in_default-read_one g c =
    let was = c.loop.invariant in
    let one = c.read_one.ensures in record {
      lanes = (was.from, was.to);
      even = was.even;
      fed = record {
        fed = record {
          right = was.right;
          read = λ gone bytes given at. one.read (gone ++ frames_of c.loop.between.to.put) bytes (was.given given) (was.read gone bytes given at);
          stays = λ opening gone bytes given at headed.
              let under = was.read gone bytes given at in
              let head = was.stays opening gone bytes given at headed in
              one.stays opening (sym under.known ∙ head) head;
        };
        given = λ given. one.told (was.given given);
        missing = let a = one.missing in let n = was.missing in omega (arith, a, n);
        fewer = sooner (read_by c.read_one.result) _ _ _ was.calls one.fewer;
        reads = reads_from (is_read_fault (read_by c.read_one.result)) _ _ _ _ was.unfailed one.reads;
        no_write = one.no_write;
      };
      written = record { told = was.told; written = was.written; fault = tt; failures = was.failures };
    }
