use Rattle.std.proofs.Common.{◌≡◌, ◌++◌, map}
use Rattle.ds_export.specs.Remade.{changed}
use Rattle.ds_export.proofs.remaking.add_meters.Given as goal

-- with the meters that are left it is what it is in the end
abbrev pub invariant-loop-key : goal.invariant-loop-key
invariant-loop-key l =
    record l.other { meters = l.other.meters ++ map (changed l.name l.parameters) l.key-iterator }
    ≡ record l.initial.other { meters = l.initial.other.meters ++ map (changed l.name l.parameters) l.domain.meters }
