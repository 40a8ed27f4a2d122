use Rattle.std.proofs.Common.{◌≡◌, map, take}
use Rattle.ds_rounds.specs.Rounds.{IsRound}
use Rattle.ds_rounds.proofs.RoundLaws.{packet_of}
use Rattle.ds_rounds.proofs.cutting.first_round.Given as goal

-- the visits so far are a round, and their packets are known
abbrev pub invariant-loop-place : goal.invariant-loop-place
invariant-loop-place l = record {
  round : IsRound l.skew (take l.place l.visits);
  packets : l.packets.keys ≡ map packet_of (take l.place l.visits);
}
