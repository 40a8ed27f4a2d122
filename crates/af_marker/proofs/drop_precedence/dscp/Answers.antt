use Rattle.std.proofs.Common.{arith}
use Rattle.af_marker.proofs.CodePointLaws.{reads_back}
use Rattle.af_marker.proofs.drop_precedence.dscp.Goals as goal

pub returns-clause-reads_back : goal.returns-clause-reads_back
returns-clause-reads_back c = reads_back c.args.class c.of_class.result c.args.colour (omega (arith, c.of_class.ensures, c.precedence_of.ensures.value))
