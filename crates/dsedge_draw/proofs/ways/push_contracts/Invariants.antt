use Rattle.std.proofs.Common.{◌≡◌, ◌++◌, drop}
use Rattle.dsedge_draw.specs.Ways.{ways_text}
use Rattle.dsedge_draw.proofs.ways.push_contracts.Given as goal

-- the contracts so far, and those that are left
abbrev pub invariant-loop-number : goal.invariant-loop-number
invariant-loop-number l =
    l.text.items ++ ways_text l.number (drop l.number l.contracts) ≡ l.initial.text.items ++ ways_text 0 l.contracts
