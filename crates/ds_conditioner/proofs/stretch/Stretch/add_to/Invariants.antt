use Rattle.std.proofs.Common.{◌≡◌, ◌++◌, take}
use Rattle.std.specs.Arc.{arc_value}
use Rattle.ds_conditioner.specs.Stretches.{between, fated}
use Rattle.ds_conditioner.proofs.stretch.Stretch.add_to.Given as goal

-- the records so far are added
abbrev pub invariant-loop-place : goal.invariant-loop-place
invariant-loop-place l =
    l.out.items ≡ l.initial.out.items
    ++ fated (between l.self-inside.from l.self-inside.until (arc_value l.self-inside.piece)) (take l.place l.self-inside.fates.items)
