use Rattle.ds_checker.proofs.ChangeLaws.{refused-for-its-own}
use Rattle.ds_checker.proofs.laws.one_more_is_refused_for_its_own.Goals as goal

pub returns : goal.returns
returns c = refused-for-its-own
