use Rattle.std.proofs.Common.{[]}
use Rattle.worked_desk.proofs.limit_rows.drive_tells_what_is_full.Given as goal

-- the desk that is opened
abbrev pub ghosts-driven : goal.ghosts-driven
ghosts-driven g a = record { log = a.log; opening = record { domain = a.domain; limits = a.limits; history = [] } }
