use Rattle.dsedge_texts.specs.Accepted.{accepted_in}
use Rattle.dsedge_serve.proofs.TellLemmas.{refused_portless}
use Rattle.dsedge_serve.proofs.marking.answer_mark.Goals as goal

pub returns-in-Err-clause-unknown : goal.returns-in-Err-clause-unknown
returns-in-Err-clause-unknown g c =
    refused_portless c.args.marking.now.in_json c.args.marking.now.has_verdict (accepted_in c.args.domain.now c.args.certificate.now)
    c.args.marking.now.port.now c.in-Err.fault c.refusal_outcome.result c.in-Err.ensures.refused c.refusal_outcome.ensures
