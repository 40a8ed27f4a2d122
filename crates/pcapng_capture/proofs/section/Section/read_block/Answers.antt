use Rattle.std.proofs.Common.{◌≤◌, length, subst, sym}
use Rattle.pcapng_capture.specs.Grammar.{least_size}
use Rattle.pcapng_capture.proofs.GrammarLaws.{size_known}
use Rattle.pcapng_capture.proofs.section.Section.read_block.Goals as goal

pub step-requires-clause-least : goal.step-requires-clause-least
step-requires-clause-least c =
    subst (λ kind. least_size kind ≤ length c.args.own.now) (sym c.requires.known.1)
    (size_known c.args.self.now c.args.own.now c.args.front.order c.requires.least c.requires.sized c.requires.known.0).0

pub step-requires-clause-most : goal.step-requires-clause-most
step-requires-clause-most c =
    (size_known c.args.self.now c.args.own.now c.args.front.order c.requires.least c.requires.sized c.requires.known.0).1
