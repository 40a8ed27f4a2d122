use Rattle.std.proofs.Common.{◌∙◌}
use Rattle.std.proofs.lemmas.Result.{MatchResult-weaker}
use Rattle.pcapng_capture.proofs.CutLaws.{fault_so_far}
use Rattle.pcapng_capture.proofs.reading.Capture.finish.Goals as goal

pub returns-clause-so_far : goal.returns-clause-so_far
returns-clause-so_far c bytes before frames h =
    let so_far = fault_so_far bytes before frames c.args.self.now h in
    MatchResult-weaker c.end.result c.end.ensures (λ _ was. so_far ∙ was.0) (λ _ was. so_far ∙ was.0)
