use Rattle.std.proofs.Common.{[]}
use Rattle.worked_desk.proofs.full_rows.drive_looks_behind_each_command_of_a_full_history.Given as goal

-- the desk that is opened
abbrev pub ghosts-filled : goal.ghosts-filled
ghosts-filled g a = record { log = a.log; opening = record { domain = a.domain; limits = a.limits; history = [] } }
