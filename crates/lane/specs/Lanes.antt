-- What a caller sees of a lane and of its two ends.
use Rattle.std.specs.Prelude.{ℕ, List}
use Rattle.atomic_table.specs.Seated.{TableId}
use Rattle.atomic_table.specs.declared.badge.Badge.{Badge}
use Rattle.crossbeam_channel.specs.declared.flavors.array.Key.{Key}

-- a lane: how many items it holds at most, and what tells it from another
pub record Lane (T : Type 0) : Type 0 where
  pub capacity : ℕ
  pub places : TableId
  pub keys : Badge (Key T)

-- the putting end: its lane, all that it put, and what it was told was taken, oldest first
pub record PuttingEnd (T : Type 0) : Type 0 where
  pub lane : Lane T
  pub put : List T
  pub told_taken : List T

-- the taking end: its lane, what it was told was put, and all that it took, oldest first
pub record TakingEnd (T : Type 0) : Type 0 where
  pub lane : Lane T
  pub told_put : List T
  pub taken : List T
