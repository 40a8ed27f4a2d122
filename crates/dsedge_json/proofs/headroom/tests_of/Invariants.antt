use Rattle.std.proofs.Common.{◌≡◌, ◌++◌, flat_map, map}
use Rattle.serde_json.specs.View.{view}
use Rattle.dsedge_json.specs.Objects.{tests_at}
use Rattle.dsedge_json.proofs.headroom.tests_of.Given as goal

-- the objects so far, and those of the meters that are left
abbrev pub invariant-loop-meter : goal.invariant-loop-meter
invariant-loop-meter l =
    map view l.tests.items ++ flat_map (λ entry. tests_at l.accepted entry.0) l.meter-iterator
    ≡ flat_map (λ entry. tests_at l.accepted entry.0) l.accepted.domain.meters
