use Rattle.std.proofs.Common.{◌≡◌, ◌++◌, take}
use Rattle.ds_conditioner.specs.Stretches.{texts}
use Rattle.ds_conditioner.proofs.handed.Handed.add_to.Given as goal

-- the stretches so far are added
abbrev pub invariant-loop-stretch : goal.invariant-loop-stretch
invariant-loop-stretch l = l.out.items ≡ l.initial.out.items ++ texts (take l.stretch-index l.stretch-items)
