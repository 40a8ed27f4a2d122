use Rattle.std.proofs.Common.{length}
use Rattle.ds_rounds.proofs.CutLaws.{IsCutTo}
use Rattle.ds_rounds.proofs.cutting.rounds.Given as goal

-- with what is left cut into rounds, the whole is
abbrev pub invariant-loop-rest : goal.invariant-loop-rest
invariant-loop-rest l = IsCutTo l.skew l.visits l.lengths.items l.rest

abbrev pub decreases-loop-rest : goal.decreases-loop-rest
decreases-loop-rest l = length l.rest
