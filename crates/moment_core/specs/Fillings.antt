-- What a meter keeps between packets: its clock, and buckets with the rates that fill them.
use Rattle.std.specs.Prelude.{ℕ, ◌+◌, ◌*◌, ◌/◌, ◌%◌}
use Rattle.moment_core.specs.declared.colour.Mode.{Mode}
use Rattle.moment_core.specs.declared.filling.Clock.{Clock}
use Rattle.moment_core.specs.declared.filling.Filling.{Filling}
use Rattle.moment_core.specs.Metering.{State, used}
use Rattle.moment_core.specs.Tokens.{begun_token, with_tokens}

-- a clock after an arrival
abbrev pub moved_on : Clock → ℕ → Clock
moved_on clock arrival = record clock { newest = used clock.newest arrival }

-- a bucket after a gap: it took in the whole tokens of its rate, and the part that is over is begun
abbrev pub filled_over : Filling → ℕ → Filling
filled_over f gap = record {
  bucket = record {
    level = with_tokens f.bucket.size ((f.rate * gap + f.begun) / 8000000000) f.bucket.level;
    size = f.bucket.size;
  };
  rate = f.rate;
  begun = (f.rate * gap + f.begun) % 8000000000;
}

-- A bucket of a meter, filled at a rate, with a size and a level: the part of a token that is begun is counted from the
-- origin.
abbrev pub filling_of : {P L : Type 0} → State P L → ℕ → ℕ → ℕ → Filling
filling_of m rate size level =
    record { bucket = record { level = level; size = size }; rate = rate; begun = begun_token rate m.origin m.newest }

-- the state of a meter with this mode, clock, parameters and levels
abbrev pub state_at : {P L : Type 0} → Mode → Clock → P → L → State P L
state_at mode clock p l =
    record { parameters = p; mode = mode; origin = clock.origin; newest = clock.newest; levels = l }
