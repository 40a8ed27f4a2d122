use Rattle.std.proofs.Common.{Err, List, ℕ, ap, false, inl, map, refl, string_bytes, subst, sym, ◌∙◌, []}
use Rattle.dsedge_serve.specs.Started.{IsCourseOn, IsToldIn}
use Rattle.dsedge_serve.specs.Started.Course.{Refused}
use Rattle.dsedge_serve.proofs.StartLemmas.{from_given, from_words, input_given, is_wordless, none_mapped, reads_behind, some_mapped, told_alone, unread_line, usage_unwritten, written_behind}
use Rattle.dsedge_serve.proofs.starting.start.Goals as goal

-- a course on the words that are given
pub returns-then-not-is_empty-clause-course : goal.returns-then-not-is_empty-clause-course
returns-then-not-is_empty-clause-course g c =
    let texts = map string_bytes c.args.given.now in
    let left = g.I.Intake.left c.args.intake.now in
    let some = some_mapped string_bytes c.args.given.now (sym c.is_empty.ensures ∙ c.if-not-is_empty.true) in
    let started = c.start_on.ensures.course in (
      started.0,
      started.1,
      λ known. from_given texts left started.0 some started.2,
      started.3,
      written_behind (g.D.Shelf.stands c.args.folder.now) started.0 _ _ left _ _ _ _ (λ told. told) (λ told. input_given texts left some) started.4,
      started.5,
      started.6,
      started.7,
      started.8,
    )

-- a course on the words of the first line
pub returns-in-Ok-clause-course : goal.returns-in-Ok-clause-course
returns-in-Ok-clause-course g c =
    let none = none_mapped string_bytes c.args.given.now (sym c.is_empty.ensures ∙ c.if-not-is_empty.false) in
    let started = c.start_on-in-Ok.ensures.course in
    let first = c.in-Ok.ensures in
    let P : List (List ℕ) → Type 0 = λ words. IsCourseOn words started.0 in rw none (
      started.0,
      started.1,
      λ tells. let words = first.words tells in
          from_words [] (g.I.Intake.left c.args.intake.now) started.0 (words.1, words.2) (subst P (ap (map string_bytes) c.as_slice.ensures.value ∙ words.0) started.2),
      started.3,
      written_behind (g.D.Shelf.stands c.args.folder.now) started.0 _ _ _ _ _ _ _ (λ tells. (first.told tells.0, tells.1)) (λ tells. first.taken tells.0) started.4,
      started.5,
      started.6,
      reads_behind started.0 _ _ _ _ first.reads started.7,
      started.8,
    )

-- the first line is refused
pub returns-in-Err-clause-course : goal.returns-in-Err-clause-course
returns-in-Err-clause-course g c =
    let none = none_mapped string_bytes c.args.given.now (sym c.is_empty.ensures ∙ c.if-not-is_empty.false) in
    let fault = c.in-Err.fault in
    let first = c.in-Err.ensures in
    let bytes = g.I.Intake.left c.args.intake.now in rw none (
      Refused false c.fault_of_line.result,
      c.refuse_start.ensures.status,
      λ tells. inl (refl, rw c.fault_of_line.ensures (is_wordless bytes fault (λ usage. first.usage tells (ap (λ f. Err f) usage)))),
      tt,
      refl,
      λ told. told_alone (IsToldIn (Refused false c.fault_of_line.result)) _ _ _ _ (c.refuse_start.ensures.told told),
      refl,
      λ whole. rw c.fault_of_line.ensures (unread_line fault _ _ _ first.reads),
      c.refuse_start.ensures.advice,
    )

-- words that are refused write nothing
pub returns-then-not-is_empty-clause-usage : goal.returns-then-not-is_empty-clause-usage
returns-then-not-is_empty-clause-usage g c usage =
    let started = c.start_on.ensures.course in
    usage_unwritten (g.D.Shelf.stands c.args.folder.now) started.0 _ _ _ _ _ (sym started.1 ∙ usage) started.4

pub returns-in-Ok-clause-usage : goal.returns-in-Ok-clause-usage
returns-in-Ok-clause-usage g c usage =
    let started = c.start_on-in-Ok.ensures.course in
    usage_unwritten (g.D.Shelf.stands c.args.folder.now) started.0 _ _ _ _ _ (sym started.1 ∙ usage) started.4
