use Rattle.dsedge_texts.proofs.ShapeLemmas.{is_shaped-certificate}
use Rattle.dsedge_texts.proofs.certifying.least_certificate.Goals as goal

pub returns-in-Ok-clause-shape : goal.returns-in-Ok-clause-shape
returns-in-Ok-clause-shape c = is_shaped-certificate c.args.domain.now c.args.contracts.now _ c.in-Ok.ensures.meets
