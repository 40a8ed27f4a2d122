use Rattle.std.proofs.Common.{arith, sym, ◌∙◌}
use Rattle.ds_marking.proofs.marking.take_turn.Goals as goal

pub returns-clause-taken : goal.returns-clause-taken
returns-clause-taken g c =
    let passage = c.args.passage.now in
    let read = c.read_piece-read.ensures in
    let on = c.pass_on.ensures in record {
      ready = record {
        missing = let a = on.still.missing in let b = read.missing in omega (arith, a, b);
        bounded = on.still.bounded;
      };
      port = on.still.port;
      fewer = λ is. rw (on.read is) at read.fewer;
      turned = λ given tells bytes first at.
          let head = read.stays passage.port.opening (sym at.underway.known ∙ at.headed) at.headed in
          on.turned tells bytes _ first at.text at.frames head (read.read at.frames bytes given at.underway) at.conditioned at.written;
      reads = on.reads _ _ _ read.reads;
      fault = on.fault;
      given = read.told;
      told = on.told;
    }
