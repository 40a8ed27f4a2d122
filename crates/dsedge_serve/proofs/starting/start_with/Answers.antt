use Rattle.std.proofs.Common.{Ok, ap, length, map, refl, sym, ◌∙◌}
use Rattle.std.proofs.lemmas.List.{length-map}
use Rattle.dsedge_serve.specs.Started.{IsToldIn}
use Rattle.dsedge_serve.specs.Started.Course.{Served, Unread}
use Rattle.dsedge_serve.proofs.StartLemmas.{told_alone}
use Rattle.dsedge_serve.proofs.starting.start_with.Goals as goal

pub returns-in-Ok-clause-course : goal.returns-in-Ok-clause-course
returns-in-Ok-clause-course g c =
    let plan = c.args.plan.now in
    let read = c.in-Ok.ensures in
    let slice = c.as_slice in
    let served = c.serve-ended.ensures.outcome in (
      Served plan (map (λ text. text.items) slice.result.now) served.0,
      served.1,
      refl,
      (
        length-map slice.result.now (λ text. text.items) ∙ ap length slice.ensures.value ∙ read.count,
        λ tells. read.texts tells ∙ ap (λ all. Ok (map (λ text. text.items) all)) (sym slice.ensures.value),
        served.6,
      ),
      (λ tell. served.2 tell.0 tell.1, served.8),
      served.3,
      served.4,
      served.5,
      served.7,
    )

pub returns-in-Err-clause-course : goal.returns-in-Err-clause-course
returns-in-Err-clause-course g c = (
  Unread c.args.plan.now c.in-Err.fault,
  c.refuse_start.ensures.status,
  refl,
  c.in-Err.ensures.refused,
  refl,
  λ told. told_alone (IsToldIn (Unread c.args.plan.now c.in-Err.fault)) _ _ _ _ (rw (← c.in_json.ensures) (c.refuse_start.ensures.told told)),
  refl,
  λ whole. refl,
  rw (← c.in_json.ensures) c.refuse_start.ensures.advice,
)
