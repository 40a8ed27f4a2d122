use Rattle.std.proofs.Common.{refl, ◌∙◌}
use Rattle.ds_checker.specs.BoundTests.{first_test}
use Rattle.ds_checker.proofs.BoundLaws.{first_failed-alone}
use Rattle.ds_checker.proofs.bounds.first_refusal_in.Goals as goal

pub returns : goal.returns
returns c = c.then_some.ensures ∙ first_failed-alone (first_test c.args.number c.args.source.now c.args.first c.args.column) _ _ _ (cc) (cc) refl
