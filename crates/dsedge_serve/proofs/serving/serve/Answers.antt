use Rattle.dsedge_serve.proofs.serving.serve.Goals as goal

pub returns-clause-outcome : goal.returns-clause-outcome
returns-clause-outcome g c =
    let answered = c.answer-outcome.ensures in
    rw (← c.names-names.ensures, ← c.in_json.ensures) (
      c.answer-outcome.result,
      c.status_after-status.ensures,
      answered.served,
      λ tells. record {
        behind_words = g.F.Outlet.held c.answer-outcome.new.faults;
        words_failures = g.F.Outlet.failed c.answer-outcome.new.faults;
        said = answered.said.said tells;
        told = c.tell_after-advice.ensures.told (answered.said.still tells);
      },
      answered.writes,
      answered.reads,
      answered.foreseen,
      c.tell_after-advice.ensures.advice,
      answered.misused,
    )
