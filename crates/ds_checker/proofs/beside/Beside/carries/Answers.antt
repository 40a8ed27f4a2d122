use Rattle.ds_checker.proofs.BesideLaws.{none-some}
use Rattle.ds_checker.proofs.beside.Beside.carries.Goals as goal

pub returns-clause-value : goal.returns-clause-value
returns-clause-value c lifetime = none-some c.tried.result _ c.is_none.result c.is_none.ensures (c.tried.ensures.some lifetime)
