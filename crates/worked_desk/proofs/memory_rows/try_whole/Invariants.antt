use Rattle.std.proofs.Common.{[]}
use Rattle.worked_desk.proofs.memory_rows.try_whole.Given as goal

-- the desk that is opened
abbrev pub ghosts-whole : goal.ghosts-whole
ghosts-whole g a = record { log = a.log; opening = record { domain = a.domain; limits = a.limits; history = [] } }
