use Rattle.std.proofs.Common.{◌≡◌, ◌++◌, map}
use Rattle.ds_export.specs.Remade.{changed}
use Rattle.ds_export.proofs.remaking.add_links.Given as goal

-- with the links that are left it is what it is in the end
abbrev pub invariant-loop-ends : goal.invariant-loop-ends
invariant-loop-ends l =
    record l.other { links = l.other.links ++ l.ends-iterator }
    ≡ record l.initial.other { links = l.initial.other.links ++ l.domain.links }
