use Rattle.std.proofs.Common.{[], refl, arith}
use Rattle.pcapng_capture.specs.Grammar.{capture, no_section, prepend}
use Rattle.pcapng_capture.proofs.GrammarLaws.{next_short}
use Rattle.pcapng_capture.proofs.ReadingLaws.{kept_waiting}
use Rattle.pcapng_capture.proofs.reading.Capture.begin.Goals as goal

pub returns-clause-so_far : goal.returns-clause-so_far
returns-clause-so_far c before =
    rw (c.none.ensures, c.new.ensures) (kept_waiting no_section [] before (prepend before (capture [])) (next_short no_section [] (omega arith)) refl)
