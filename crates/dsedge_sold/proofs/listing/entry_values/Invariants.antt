use Rattle.std.proofs.Common.{◌≡◌, ◌++◌, drop, map}
use Rattle.serde_json.specs.View.{view}
use Rattle.dsedge_sold.specs.SoldObjects.{entry_data}
use Rattle.dsedge_sold.proofs.listing.entry_values.Given as goal

-- the objects so far, and those of the contracts that are left
abbrev pub invariant-loop-entry : goal.invariant-loop-entry
invariant-loop-entry l = map view l.values.items ++ map entry_data (drop l.entry-index l.entries) ≡ map entry_data l.entries
