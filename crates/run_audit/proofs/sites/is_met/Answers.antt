use Rattle.std.proofs.Common.{sym, ap, map, ◌∙◌, is_some, nat_eq}
use Rattle.run_audit.proofs.JournalLaws.{is_among, place_found}
use Rattle.run_audit.proofs.sites.is_met.Goals as goal

pub returns-else-is_none : goal.returns-else-is_none
returns-else-is_none c =
    let sites = map (λ j. j.site) c.args.journals.now in
    let test = is_among sites c.args.site in
    let there = c.is_some.ensures ∙ ap is_some c.place_of.ensures ∙ place_found (nat_eq c.args.site) sites in (
      λ passed some. test.0 (sym there ∙ passed),
      λ each. there ∙ test.1 (each (ap is_some (sym c.opening_at.ensures) ∙ c.if-is_none.ensures)),
    )
