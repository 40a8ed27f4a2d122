use Rattle.std.proofs.Common.{◌≡◌, ◌++◌, drop, map}
use Rattle.serde_json.specs.View.{view}
use Rattle.dsedge_audit.specs.AuditObjects.{site_of}
use Rattle.dsedge_audit.proofs.objects.sites_of.Given as goal

-- the objects so far, and those of the journals that are left
abbrev pub invariant-loop-journal : goal.invariant-loop-journal
invariant-loop-journal l =
    map view l.sites.items ++ map (site_of l.accepted) (drop l.journal-index l.journals) ≡ map (site_of l.accepted) l.journals
