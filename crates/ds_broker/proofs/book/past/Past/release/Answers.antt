use Rattle.std.proofs.Common.{◌≡◌, ◌≤◌, length, rules, refl, sym, ap, subst, ◌∙◌, max}
use Rattle.ds_timeline.specs.Kept.{IsNumbered}
use Rattle.ds_broker.specs.Timelines.{changed, ending_by}
use Rattle.ds_broker.proofs.TakingLaws.{past-ended, past-parts}
use Rattle.ds_broker.proofs.book.past.Past.release.Goals as goal

pub returns : goal.returns
returns c =
    let rs = c.self.inside.granted.items in
    let moment : c.max-moment.result ≡ max c.self.inside.newest c.args.at = search rules in
    let numbered : IsNumbered 0 rs = subst (λ p. IsNumbered 0 p.granted) (sym c.self.view_is) c.requires.numbered in
    let most : c.args.id ≤ length rs = subst (λ p. c.args.id ≤ length p.granted) (sym c.self.view_is) c.requires.most in
    past-parts _ _ (moment ∙ ap (λ p. max p.newest c.args.at) c.self.view_is)
    (past-ended rs c.self.inside.newest c.args.at c.max-moment.result c.args.id _ c.index_mut.result.now c.index.result.now c.ended.result moment numbered c.requires.least most
    c.index_mut.ensures.value c.index.ensures c.ended.ensures refl
    ∙ ap (λ p. changed c.args.id (ending_by (max p.newest c.args.at)) p.granted) c.self.view_is)
