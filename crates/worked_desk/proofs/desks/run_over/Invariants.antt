use Rattle.std.proofs.Common.{[]}
use Rattle.worked_desk.proofs.desks.run_over.Given as goal

-- the broker that is made
abbrev pub ghosts-run_named : goal.ghosts-run_named
ghosts-run_named g a
    = record { log = a.log; opening = record { domain = a.plan.domain; limits = a.plan.limits; history = [] } }
