use Rattle.std.proofs.Common.{subst, sym, ◌∙◌}
use Rattle.std.proofs.lemmas.Result.{MatchResult-weaker, MatchResult-from_both}
use Rattle.pcapng_capture.specs.Grammar.{Reading}
use Rattle.pcapng_capture.specs.Readings.{Stops}
use Rattle.pcapng_capture.proofs.CutLaws.{so_far}
use Rattle.pcapng_capture.proofs.reading.Capture.feed.Goals as goal

pub returns-clause-so_far : goal.returns-clause-so_far
returns-clause-so_far c bytes before h =
    let known = sym (so_far bytes c.args.piece.now before c.args.out.now c.args.self.now h) in
    MatchResult-weaker c.advance.result (MatchResult-from_both c.advance.result _ _ c.advance.ensures.ok c.advance.ensures.err)
    (λ _ read. read ∙ known) (λ fault stopped. subst (λ (r : Reading). Stops r c.advance.new.out fault) known stopped.1)
