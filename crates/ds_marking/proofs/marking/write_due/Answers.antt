use Rattle.std.proofs.Common.{true}
use Rattle.ds_marking.proofs.marking.write_due.Goals as goal

pub returns-clause-bytes : goal.returns-clause-bytes
returns-clause-bytes g c = λ tells frames text before at written.
    c.write_on.ensures.bytes tells true frames text before (c.make_due.ensures.made c.args.port.now frames text at) written
