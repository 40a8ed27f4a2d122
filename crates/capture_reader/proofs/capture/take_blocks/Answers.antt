use Rattle.capture_reader.proofs.CaptureLaws.{blocks_err, blocks_ok}
use Rattle.capture_reader.proofs.capture.take_blocks.Goals as goal

pub returns-clause-taken : goal.returns-clause-taken
returns-clause-taken g c =
    let it = c.take_from-taken.ensures in
    let there = c.args.out.now in
    let frames = c.take_from-taken.new.out in record {
      told = it.told;
      ok = blocks_ok _ _ _ _ c.args.capture c.take_from-taken.new.self there frames c.take_from-taken.result it.ok;
      err = blocks_err _ _ _ _ c.args.capture c.take_from-taken.new.self there frames c.take_from-taken.result it.err;
      end = it.end;
      reads = it.reads;
      fewer = it.fewer;
      no_more = it.no_more;
    }
