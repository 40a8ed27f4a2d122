use Rattle.std.proofs.Common.{◌++◌, ap, ◌∙◌}
use Rattle.ds_conditioner.specs.Stretches.{texts}
use Rattle.ds_conditioner.proofs.StretchLaws.{texts_push}
use Rattle.ds_conditioner.proofs.handed.Handed.add.Goals as goal

pub returns : goal.returns
returns c =
    ap texts c.in_ok-push.ensures.items ∙ texts_push c.self.inside.stretches.items c.args.stretch ∙ ap (λ it. it ++ c.args.stretch.text) c.self.view_is
