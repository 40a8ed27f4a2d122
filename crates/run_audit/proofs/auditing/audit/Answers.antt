use Rattle.std.proofs.Common.{◌≡◌, subst, sym, ◌∙◌, ap, unwrap_or}
use Rattle.run_audit.specs.Bases.{IsGranted}
use Rattle.run_audit.specs.Verdicts.{verdict_of}
use Rattle.run_audit.specs.declared.verdict.Verdict.TheVariants.{Kept}
use Rattle.run_audit.proofs.ColourLaws.{timeline_keeps}
use Rattle.run_audit.proofs.PremiseLaws.{kept_is_premises}
use Rattle.run_audit.proofs.auditing.audit.Goals as goal

pub returns-clause-kept : goal.returns-clause-kept
returns-clause-kept c =
    let is : c.unwrap_or.result ≡ verdict_of c.args.run.now.basis c.args.run.now.run = c.unwrap_or.ensures ∙ ap (λ found. unwrap_or found Kept) c.in_ok-found.ensures in
    rw is (kept_is_premises c.args.run.now.basis c.args.run.now.run c.basis.ensures.run)

pub returns-clause-colours : goal.returns-clause-colours
returns-clause-colours c kept =
    let is : c.unwrap_or.result ≡ verdict_of c.args.run.now.basis c.args.run.now.run = c.unwrap_or.ensures ∙ ap (λ found. unwrap_or found Kept) c.in_ok-found.ensures in
    let premises = (kept_is_premises c.args.run.now.basis c.args.run.now.run c.basis.ensures.run).0 (sym is ∙ kept) in
    let (timeline, covered, rated, granted) = subst IsGranted c.basis.ensures.value c.domain-granted.ensures.granted in
    timeline_keeps timeline c.args.run.now.basis c.args.run.now.run covered rated granted c.basis.ensures.run premises
