use Rattle.dsedge_audit.proofs.ObjectLaws.{audit_says}
use Rattle.dsedge_audit.proofs.objects.audit_object.Goals as goal

pub returns-in_err-value-clause-says : goal.returns-in_err-value-clause-says
returns-in_err-value-clause-says c = audit_says c.args.accepted.now c.args.verdict.now c.args.journals.now
