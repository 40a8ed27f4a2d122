use Rattle.std.proofs.Common.{◌∙◌, ◌++◌, ◌∷◌, [], ap, map, subst, nat_eq, position}
use Rattle.std.specs.List.{list_any}
use Rattle.run_audit.specs.Assembling.{Knows}
use Rattle.run_audit.proofs.JournalLaws.{no_place, was_new}
use Rattle.run_audit.proofs.sites.is_new.Goals as goal

pub returns-in-None-clause-new : goal.returns-in-None-clause-new
returns-in-None-clause-new c =
    no_place (λ j. j.site) c.args.journal.now.site c.args.front.now c.place_among.result c.is_none.result
    (c.place_among.ensures ∙ ap (λ n. position (λ j. nat_eq j.site n) c.args.front.now) c.site-in-None.ensures) c.is_none.ensures

pub returns-in-None-clause-kept : goal.returns-in-None-clause-kept
returns-in-None-clause-kept c new =
    let keys = map (λ j. j.site) c.args.front.now in
    let own = c.from.ensures ∙ c.site.ensures in
    let nowhere = was_new c.is_none.result _ (no_place (λ j. j.site) c.args.journal.now.site c.args.front.now c.place_among.result c.is_none.result
    (c.place_among.ensures ∙ ap (λ n. position (λ j. nat_eq j.site n) c.args.front.now) c.site-in-None.ensures) c.is_none.ensures) new in
    subst (λ n. Knows c.add.new.self.set (keys ++ n ∷ [])) own (c.add.ensures.kept keys c.requires (ap (λ n. list_any (nat_eq n) keys) own ∙ nowhere))
