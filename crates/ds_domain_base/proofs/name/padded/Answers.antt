use Rattle.ds_domain_base.proofs.NameLaws.{filled_up}
use Rattle.ds_domain_base.proofs.name.padded.Goals as goal

pub returns : goal.returns
returns c = filled_up c.args.text.now c.copy_from_slice.new.self c.copy_from_slice.ensures.after
