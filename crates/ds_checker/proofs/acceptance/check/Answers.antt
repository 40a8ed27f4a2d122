use Rattle.std.proofs.Common.{inl, refl}
use Rattle.ds_checker.specs.Acceptance.{table_of}
use Rattle.ds_checker.proofs.AcceptanceLaws.{acceptable, bounds_stand}
use Rattle.ds_checker.proofs.acceptance.check.Goals as goal

pub returns-in-Err-new-clause-refused : goal.returns-in-Err-new-clause-refused
returns-in-Err-new-clause-refused c =
    let t = table_of c.args.candidate in
    inl (refl, bounds_stand t (acceptable t c.in-Ok.ensures.unrefused))
