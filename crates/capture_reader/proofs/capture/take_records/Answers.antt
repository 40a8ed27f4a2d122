use Rattle.capture_reader.proofs.CaptureLaws.{records_err, records_ok, still_opened}
use Rattle.capture_reader.proofs.capture.take_records.Goals as goal

pub returns-clause-opened : goal.returns-clause-opened
returns-clause-opened g c =
    let it = c.take_from-taken.ensures in
    still_opened _ _ _ _ c.args.capture c.take_from-taken.new.self c.args.out.now c.take_from-taken.new.out c.requires c.take_from-taken.result it.ok it.err

pub returns-clause-taken : goal.returns-clause-taken
returns-clause-taken g c =
    let it = c.take_from-taken.ensures in
    let there = c.args.out.now in
    let frames = c.take_from-taken.new.out in record {
      told = it.told;
      ok = records_ok _ _ _ _ c.args.capture c.take_from-taken.new.self there frames c.requires c.take_from-taken.result it.ok;
      err = records_err _ _ _ _ c.args.capture c.take_from-taken.new.self there frames c.requires c.take_from-taken.result it.err;
      end = it.end;
      reads = it.reads;
      fewer = it.fewer;
      no_more = it.no_more;
    }
