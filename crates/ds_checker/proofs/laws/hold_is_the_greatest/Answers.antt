use Rattle.ds_checker.specs.Holds.{holds_of}
use Rattle.ds_checker.proofs.HoldLaws.{no_less, none_or_one}
use Rattle.ds_checker.proofs.laws.hold_is_the_greatest.Goals as goal

pub returns-clause-least : goal.returns-clause-least
returns-clause-least c d contract bounds = no_less (holds_of d contract bounds)

pub returns-clause-attained : goal.returns-clause-attained
returns-clause-attained c d contract bounds = none_or_one (holds_of d contract bounds)
