use Rattle.std.proofs.Common.{◌≡◌, ◌++◌, map}
use Rattle.ds_export.specs.Remade.{changed}
use Rattle.ds_export.proofs.remaking.add_ports.Given as goal

-- with the ports that are left it is what it is in the end
abbrev pub invariant-loop-key : goal.invariant-loop-key
invariant-loop-key l =
    record l.other { ports = l.other.ports ++ l.key-iterator }
    ≡ record l.initial.other { ports = l.initial.other.ports ++ l.domain.ports }
