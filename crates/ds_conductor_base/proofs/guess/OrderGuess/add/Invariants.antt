use Rattle.std.proofs.Common.{◌≡◌, ◌+◌, length, vec_len}
use Rattle.ds_conductor_base.proofs.guess.OrderGuess.add.Given as goal

-- one key for each stop that was passed
abbrev pub invariant-loop-stop : goal.invariant-loop-stop
invariant-loop-stop l = record { count : vec_len l.self-inside.keys ≡ length l.fn.self + l.stop-index }
