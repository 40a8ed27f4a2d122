use Rattle.std.proofs.Common.{refl}
use Rattle.dsedge_faults.specs.Faults.{fault_text}
use Rattle.dsedge_json_faults.proofs.telling.tell_fault.Goals as goal

pub returns-else-in_json-clause-line : goal.returns-else-in_json-clause-line
returns-else-in_json-clause-line g c told = rw c.if-in_json.false (fault_text c.args.fault.now, refl, c.tell.ensures.line told)
