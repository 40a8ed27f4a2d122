use Rattle.std.proofs.Common.{◌≡◌, ◌++◌, drop, flat_map}
use Rattle.dsedge_draw.specs.Ways.{hop_text}
use Rattle.dsedge_draw.proofs.ways.push_hops.Given as goal

-- the hops so far, and those that are left
abbrev pub invariant-loop-meter : goal.invariant-loop-meter
invariant-loop-meter l =
    l.text.items ++ flat_map hop_text (drop l.meter-index l.meters) ≡ l.initial.text.items ++ flat_map hop_text l.meters
