use Rattle.std.proofs.Common.{◌∙◌, ap}
use Rattle.ds_domain.proofs.WayLemmas.{moved, way_fault-moved}
use Rattle.ds_domain.proofs.contracts.fitting.Goals as goal

pub returns-in-Err-clause-refused : goal.returns-in-Err-clause-refused
returns-in-Err-clause-refused c =
    way_fault-moved c.args.place.index c.args.domain.now c.args.contract.port c.args.contract.path ∙ ap (moved c.args.place.index) c.in-Err.ensures
