use Rattle.std.proofs.Common.{◌≡◌, ◌++◌, drop, flat_map}
use Rattle.dsedge_sold.specs.Sold.{entry_line}
use Rattle.dsedge_sold.proofs.lines.push_entries.Given as goal

-- the lines so far, and those of the contracts that are left
abbrev pub invariant-loop-entry : goal.invariant-loop-entry
invariant-loop-entry l =
    l.text.items ++ flat_map entry_line (drop l.entry-index l.entries)
    ≡ l.initial.text.items ++ flat_map entry_line l.entries
