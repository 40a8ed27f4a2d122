use Rattle.std.proofs.Common.{◌≡◌, ◌++◌, flat_map}
use Rattle.dsedge_draw.specs.Ways.{link_text}
use Rattle.dsedge_draw.proofs.drawing.push_links.Given as goal

-- the links so far, and those that are left
abbrev pub invariant-loop-ends : goal.invariant-loop-ends
invariant-loop-ends l =
    l.text.items ++ flat_map link_text l.ends-iterator ≡ l.initial.text.items ++ flat_map link_text l.domain.links
