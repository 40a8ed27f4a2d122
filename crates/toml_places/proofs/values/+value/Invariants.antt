use Rattle.std.proofs.Common.{◌≡◌, ℕ, ◌+◌, ◌*◌, ◌<◌, ◌≤◌, List, length}
use denote.Text.{Utf8}
use denote.Shadow.{shadow}
use Rattle.toml.specs.Data.{Items, no_items}
use Rattle.toml.specs.Tables.{Nodes, no_nodes}
use Rattle.toml.specs.Parse.{val, items, members}
use Rattle.toml_places.specs.Readings.{Follows}
use Rattle.toml_places.proofs.values.+value.Given as goal

abbrev pub decreases-behind_items : goal.decreases-behind_items
decreases-behind_items l = 2 * l.depth + 2

abbrev pub decreases-behind_members : goal.decreases-behind_members
decreases-behind_members l = 2 * l.depth + 2

abbrev pub decreases-behind_value : goal.decreases-behind_value
decreases-behind_value l = 2 * l.depth + 1

abbrev pub invariant-behind_items-items : goal.invariant-behind_items-items
invariant-behind_items-items l =
    shadow (Utf8 l.rest) × (length l.rest ≤ length l.fn.s)
    × ((n : ℕ) → length l.fn.s < n → (m : ℕ) × (length l.rest < m) × (found : Items)
    × ((rest : List ℕ) → Follows (items (val l.fn.depth) m found l.rest) rest → Follows (items (val l.fn.depth) n no_items l.fn.s) rest))

abbrev pub decreases-behind_items-items : goal.decreases-behind_items-items
decreases-behind_items-items l = length l.rest

abbrev pub invariant-behind_members-members : goal.invariant-behind_members-members
invariant-behind_members-members l =
    shadow (Utf8 l.rest) × (length l.rest ≤ length l.fn.s)
    × ((n : ℕ) → length l.fn.s < n → (m : ℕ) × (length l.rest < m) × (found : Nodes)
    × ((rest : List ℕ) → Follows (members (val l.fn.depth) m found l.rest) rest → Follows (members (val l.fn.depth) n no_nodes l.fn.s) rest))

abbrev pub decreases-behind_members-members : goal.decreases-behind_members-members
decreases-behind_members-members l = length l.rest
