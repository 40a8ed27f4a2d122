use Rattle.std.proofs.Common.{refl, ◌∙◌}
use Rattle.ds_checker.specs.BoundTests.{hop_test}
use Rattle.ds_checker.proofs.BoundLaws.{first_failed-alone}
use Rattle.ds_checker.proofs.bounds.hop_refusal_in.Goals as goal

pub returns : goal.returns
returns c = c.then_some.ensures ∙ first_failed-alone (hop_test c.args.number c.args.hop c.args.source.now c.args.jitter c.args.before c.args.bound c.args.column) _ _ _ (cc) (cc) refl
