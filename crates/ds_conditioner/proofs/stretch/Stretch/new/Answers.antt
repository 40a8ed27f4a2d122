use Rattle.std.proofs.Common.{[], ap, length, arith, ◌∙◌}
use Rattle.std.specs.Arc.{arc_value}
use Rattle.ds_conditioner.specs.Stretches.{StretchValue, between}
use Rattle.ds_conditioner.proofs.StretchLaws.{none_fated, none_text}
use Rattle.ds_conditioner.proofs.stretch.Stretch.new.Goals as goal

pub invariant_of-result : goal.invariant_of-result
invariant_of-result c =
    none_fated (arc_value c.in_ok-try_clone.field-0) c.args.from c.args.until c.in_ok-fates.fates.items _ c.in_ok-fates.ensures.items c.requires.first
    (omega (arith, c.requires.last, ap length c.in_ok-try_clone.ensures)) c.in_ok-fates.ensures.capacity

pub returns : goal.returns
returns c =
    none_text (arc_value c.in_ok-try_clone.field-0) c.args.from c.args.until c.in_ok-fates.fates.items c.in_ok-fates.ensures.items
    ∙ ap (λ fs. let s : StretchValue = record { text = []; coming = between c.args.from c.args.until fs } in s) c.in_ok-try_clone.ensures
