-- What stands at the meters of a table, also where it is refused.
use Rattle.std.specs.Prelude.{ℕ, List, [], ◌∷◌, map}
use Rattle.ds_domain_base.specs.declared.parts.Meter.{Meter}
use Rattle.ds_checker.specs.Acceptance.{Table}
use Rattle.ds_checker.specs.Headrooms.{headroom_at, headroom_by}
use Rattle.ds_checker.specs.Sums.{counted_load}
use Rattle.ds_checker.specs.declared.headroom.Headroom.{Headroom}
use Rattle.ds_checker.specs.declared.load.Loads.{Loads}

-- what is taken at each meter of a table and what it has, in the order of the meters
abbrev pub headrooms_of : Table → List Headroom
headrooms_of t = map (λ entry. headroom_at t entry.0 entry.1) t.domain.meters

-- the same, by the sums of what is brought to each
unfoldable pub headrooms_by : List (List ℕ × Meter) → List Loads → List Headroom
headrooms_by (entry ∷ meters) (loads ∷ sums) =
    headroom_by entry.1 loads.green (counted_load entry.1.parameters loads) ∷ headrooms_by meters sums
headrooms_by meters sums = []
