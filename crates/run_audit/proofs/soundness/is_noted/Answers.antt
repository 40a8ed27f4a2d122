use Rattle.std.proofs.Common.{◌∙◌, ap, map, sym, is_some, nat_eq}
use Rattle.std.proofs.lemmas.Bool.{false≢true}
use Rattle.run_audit.proofs.JournalLaws.{not_noted, noted_here, place_found}
use Rattle.run_audit.proofs.soundness.is_noted.Goals as goal

pub returns-in-None : goal.returns-in-None
returns-in-None c = (
  λ passed. absurd (false≢true passed),
  λ noted. absurd (not_noted c.args.journals.now c.args.receipt
      (sym (place_found (nat_eq c.args.receipt.site) (map (λ j. j.site) c.args.journals.now)) ∙ ap is_some (sym c.place_of.ensures ∙ c.in-None.is)) noted),
)

pub returns-in-Some : goal.returns-in-Some
returns-in-Some c =
    noted_here c.args.journals.now c.args.receipt c.in-Some.place c.index-journals-place.result c.is_row.result c.requires.once
    (sym c.in-Some.ensures) c.index-journals-place.is c.is_row.ensures
