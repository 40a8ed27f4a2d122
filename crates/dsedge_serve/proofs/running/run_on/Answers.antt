use Rattle.std.proofs.Common.{ap, not, string_bytes, ◌&&◌, ◌∙◌, Bool, subst}
use Rattle.dsedge_saying.specs.Saying.{IsSaid}
use Rattle.dsedge_serve.proofs.StartLemmas.{asks_mapped}
use Rattle.dsedge_serve.proofs.running.run_on.Goals as goal

-- what is said and told is so by the start, behind it by the texts of the files, and behind that by the advice
pub returns : goal.returns
returns g c =
    let started = c.start-ended.ensures.course in
    let behind = g.F.Outlet.held c.start-ended.new.faults in
    let failures = g.F.Outlet.failed c.start-ended.new.faults in
    let same = c.is_explained-is_explained.ensures ∙ ap (λ b. c.args.is_asked && not b) (asks_mapped string_bytes c.args.words.now) in
    let P : Bool → Type 0 = λ asked. IsSaid asked behind (g.F.Outlet.held c.explain.new.faults) failures (g.F.Outlet.failed c.explain.new.faults) in record {
      course = (
        started.0,
        started.1,
        started.2,
        started.3,
        started.4,
        λ tells. let told = started.5 tells in (
          told.told.0,
          told.told.1,
          record {
            behind_words = told.behind_words;
            words_failures = told.words_failures;
            behind_line = behind;
            line_failures = failures;
            behind_texts = g.F.Outlet.held c.explain.new.faults;
            texts_failures = g.F.Outlet.failed c.explain.new.faults;
            spoken_words = told.said;
            told = told.told.2;
            said = subst P same (c.explain.ensures.said (c.start-ended.ensures.still tells));
            advised = rw (← started.8) (c.advise.ensures (c.explain.ensures.still (c.start-ended.ensures.still tells)));
          },
        ),
        started.6,
        started.7,
      );
    }
