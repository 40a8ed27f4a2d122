use Rattle.std.proofs.Common.{◌∙◌, ap, map, not, refl, sym}
use Rattle.run_audit.proofs.JournalLaws.{any_shown, was_new}
use Rattle.run_audit.proofs.assembling.is_new.Goals as goal

pub returns-in-None-clause-new : goal.returns-in-None-clause-new
returns-in-None-clause-new c = ap not (c.is_among.ensures ∙ any_shown (λ trail. trail.packet) c.args.trail.now.packet c.args.front.now)

pub returns-in-None-clause-kept : goal.returns-in-None-clause-kept
returns-in-None-clause-kept c new =
    c.add.ensures.kept (map (λ trail. trail.packet) c.args.front.now) c.requires
    (sym (c.is_among.ensures ∙ any_shown (λ trail. trail.packet) c.args.trail.now.packet c.args.front.now) ∙ was_new _ c.is_among.result refl new)
