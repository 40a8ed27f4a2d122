use Rattle.std.proofs.Common.{◌*◌, ◌≤◌, ◌^◌, ℕ}
use Rattle.ds_conductor_base.proofs.HeadStartLaws.{AreAhead}
use Rattle.ds_conductor_base.proofs.way.head_start.Given as goal

-- the greatest head start of the contracts so far
abbrev pub invariant-loop-place : goal.invariant-loop-place
invariant-loop-place l = record {
  holds : AreAhead l.accepted.domain l.contracts l.port l.place l.least;
  greatest : (delay : ℕ) → delay ≤ 16 * 10 ^ 10 → AreAhead l.accepted.domain l.contracts l.port l.place delay → delay ≤ l.least;
}
