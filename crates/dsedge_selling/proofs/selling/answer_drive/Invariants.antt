use Rattle.dsedge_drive.specs.Driven.{opening_book}
use Rattle.dsedge_selling.proofs.selling.answer_drive.Given as goal

-- the desk that is opened
abbrev pub ghosts-sell : goal.ghosts-sell
ghosts-sell g a = record { log = a.opened; opening = opening_book a.sale.domain a.sale.limits }
