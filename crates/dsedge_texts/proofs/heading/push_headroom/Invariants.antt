use Rattle.std.proofs.Common.{◌≡◌, ◌++◌, flat_map}
use Rattle.dsedge_texts.specs.Headed.{lines_at}
use Rattle.dsedge_texts.proofs.heading.push_headroom.Given as goal

-- the lines so far, and those of the meters that are left
abbrev pub invariant-loop-meter : goal.invariant-loop-meter
invariant-loop-meter l =
    l.text.items ++ flat_map (λ entry. lines_at l.accepted entry.0) l.meter-iterator
    ≡ l.initial.text.items ++ flat_map (λ entry. lines_at l.accepted entry.0) l.accepted.domain.meters
