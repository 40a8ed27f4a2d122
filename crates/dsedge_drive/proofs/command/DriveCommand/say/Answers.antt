use Rattle.dsedge_drive.proofs.KeepLaws.{fold_on, kept_on}
use Rattle.dsedge_drive.proofs.command.DriveCommand.say.Goals as goal

pub invariant_of-self : goal.invariant_of-self
invariant_of-self g c =
    let old = c.self.inside.shop in
    let new = c.say.new.shop in
    let keeper = c.self.inside.keeper in
    (kept_on g.L.Ledger keeper.ledger keeper.kept old new c.say.ensures.grown c.self.invariant.0, fold_on old new c.say.ensures.grown c.self.invariant.1)
