use Rattle.ds_conductor.proofs.laning.write_next.Goals as goal

pub returns-clause-text : goal.returns-clause-text
returns-clause-text g c = (c.receive-handed.result, c.receive-handed.ensures.taken, λ tells. c.write_handed-written.ensures.text tells)
