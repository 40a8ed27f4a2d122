use Rattle.std.proofs.Common.{◌≡◌, ◌+◌, ◌≤◌, drop, fold}
use Rattle.toml_places.specs.Places.{next_column}
use Rattle.toml_places.proofs.place.column_at.Given as goal

abbrev pub invariant-loop-byte : goal.invariant-loop-byte
invariant-loop-byte l =
    (l.column ≤ l.byte-index + 1)
    × (fold next_column l.column (drop l.byte-index l.before) ≡ fold next_column 1 l.before)
