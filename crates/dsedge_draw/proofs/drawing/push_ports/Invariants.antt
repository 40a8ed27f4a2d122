use Rattle.std.proofs.Common.{◌≡◌, ◌++◌, flat_map}
use Rattle.dsedge_draw.specs.Drawings.{port_text}
use Rattle.dsedge_draw.proofs.drawing.push_ports.Given as goal

-- the ports so far, and those that are left
abbrev pub invariant-loop-name : goal.invariant-loop-name
invariant-loop-name l =
    l.text.items ++ flat_map (λ entry. port_text entry.0) l.name-iterator
    ≡ l.initial.text.items ++ flat_map (λ entry. port_text entry.0) l.domain.ports
