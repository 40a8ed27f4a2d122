use Rattle.std.proofs.Common.{subst}
use Rattle.run_audit.specs.Bases.{basis_of}
use Rattle.run_audit.specs.Assembled.{run_of}
use Rattle.run_audit.specs.Assembling.{IsRefusal}
use Rattle.run_audit.proofs.run.Run.assemble.Goals as goal

pub returns-in-Err-clause-refused : goal.returns-in-Err-clause-refused
returns-in-Err-clause-refused c =
    subst (λ journals. IsRefusal (basis_of c.args.basis) (run_of journals c.args.trails.items) c.in-Err.fault) c.as_slice.ensures.value
    (subst (λ trails. IsRefusal (basis_of c.args.basis) (run_of c.as_slice.result.now trails) c.in-Err.fault) c.as_slice-2.ensures.value c.in-Err.ensures.refused)
