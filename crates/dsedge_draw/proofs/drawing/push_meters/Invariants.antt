use Rattle.std.proofs.Common.{◌≡◌, ◌++◌}
use Rattle.std.specs.Iterator.Adapters.{zip_first, zip_second}
use Rattle.std.specs.Slice.Iter.{iter_rest}
use Rattle.dsedge_draw.specs.Drawings.{meters_text}
use Rattle.dsedge_draw.proofs.drawing.push_meters.Given as goal

-- the meters so far, and those that are left
abbrev pub invariant-loop-name : goal.invariant-loop-name
invariant-loop-name l =
    l.text.items ++ meters_text (zip_first l.name-iterator) (iter_rest (zip_second l.name-iterator))
    ≡ l.initial.text.items ++ meters_text l.domain.meters l.headrooms
