use Rattle.std.proofs.Common.{◌≡◌, ◌≤◌, map, length, drop}
use Rattle.std.specs.Map.{values_of}
use Rattle.run_audit.specs.Assembled.{passage_of}
use Rattle.run_audit.specs.Bases.{basis_of}
use Rattle.run_audit.specs.Spills.{spilled_from}
use Rattle.run_audit.proofs.sources.first_spilled.Given as goal

-- what is left is as the whole
abbrev pub invariant-loop-flow : goal.invariant-loop-flow
invariant-loop-flow l =
    let g = basis_of l.basis in
    (spilled_from g.domain l.flow (drop l.flow (values_of g.contracts)) (map (λ trail. passage_of trail.now) (drop l.begin l.trails))
    ≡ spilled_from g.domain 0 (values_of g.contracts) (map (λ trail. passage_of trail.now) l.trails))
    × (l.begin ≤ length l.trails)
