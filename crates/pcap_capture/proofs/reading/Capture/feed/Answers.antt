use Rattle.std.proofs.Common.{subst, sym, ◌∙◌}
use Rattle.pcap_capture.specs.Grammar.{Reading, Stops}
use Rattle.pcap_capture.proofs.CutLaws.{so_far}
use Rattle.pcap_capture.proofs.reading.Capture.feed.Goals as goal

pub returns-in-Ok-clause-so_far : goal.returns-in-Ok-clause-so_far
returns-in-Ok-clause-so_far c bytes before h =
    c.in-Ok.ensures.ok ∙ sym (so_far bytes c.args.piece.now before c.args.out.now.items c.args.self.now h)

pub returns-in-Err-clause-so_far : goal.returns-in-Err-clause-so_far
returns-in-Err-clause-so_far c bytes before h =
    subst (λ (r : Reading). Stops r c.advance.new.out.items c.in-Err.fault) (sym (so_far bytes c.args.piece.now before c.args.out.now.items c.args.self.now h)) c.in-Err.ensures.err.1
