use Rattle.std.proofs.Common.{◌≡◌, ◌++◌, drop, flat_map}
use Rattle.dsedge_audit.specs.Audited.{accounts_line}
use Rattle.dsedge_audit.proofs.accounts_text.push_sites.Given as goal

-- the lines so far, and those of the journals that are left
abbrev pub invariant-loop-journal : goal.invariant-loop-journal
invariant-loop-journal l =
    l.text.items ++ flat_map (accounts_line l.accepted) (drop l.journal-index l.journals)
    ≡ l.initial.text.items ++ flat_map (accounts_line l.accepted) l.journals
