use Rattle.std.proofs.Common.{map, refl, string_bytes, ◌∙◌}
use Rattle.dsedge_serve.specs.Started.{IsToldIn}
use Rattle.dsedge_serve.specs.Started.Course.{Refused}
use Rattle.dsedge_serve.proofs.StartLemmas.{asks_mapped, is_refused, on_plan, refused_unread, told_alone}
use Rattle.dsedge_serve.proofs.starting.start_on.Goals as goal

pub returns-in-Ok-clause-course : goal.returns-in-Ok-clause-course
returns-in-Ok-clause-course g c =
    let started = c.start_with.ensures.course in
    (started.0, started.1, on_plan (map string_bytes c.args.words.now) c.in-Ok.plan started.0 c.in-Ok.ensures.ok started.2, started.3, started.4, started.5, started.6, started.7, started.8)

pub returns-in-Err-clause-course : goal.returns-in-Err-clause-course
returns-in-Err-clause-course g c =
    let fault = c.in-Err.fault in (
      Refused c.asks_json.result c.fault_of_words.result,
      c.refuse_start.ensures.status,
      (c.asks_json.ensures ∙ asks_mapped string_bytes c.args.words.now, rw (c.fault_of_words.ensures) (is_refused (map string_bytes c.args.words.now) fault c.in-Err.ensures.err)),
      tt,
      refl,
      λ told. told_alone (IsToldIn (Refused c.asks_json.result c.fault_of_words.result)) _ _ _ _ (c.refuse_start.ensures.told told),
      refl,
      λ whole. rw (c.fault_of_words.ensures) (refused_unread fault (g.I.Intake.failed c.args.intake.now) (g.I.Intake.calls c.args.intake.now)),
      c.refuse_start.ensures.advice,
    )
