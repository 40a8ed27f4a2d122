use Rattle.std.proofs.Common.{◌≡◌, ◌≤◌, length, rules, refl, sym, ap, subst, ◌∙◌, max}
use Rattle.ds_timeline.specs.Kept.{IsNumbered}
use Rattle.ds_broker.specs.Timelines.{changed, retired_at}
use Rattle.ds_broker.proofs.TakingLaws.{past-out, past-parts}
use Rattle.ds_broker.proofs.book.past.Past.retire.Goals as goal

pub returns : goal.returns
returns c =
    let rs = c.self.inside.granted.items in
    let moment : c.max-self-inside.result ≡ max c.self.inside.newest c.args.moment = search rules in
    let numbered : IsNumbered 0 rs = subst (λ p. IsNumbered 0 p.granted) (sym c.self.view_is) c.requires.numbered in
    let most : c.args.id ≤ length rs = subst (λ p. c.args.id ≤ length p.granted) (sym c.self.view_is) c.requires.most in
    past-parts _ _ (moment ∙ ap (λ p. max p.newest c.args.moment) c.self.view_is)
    (past-out rs c.self.inside.newest c.args.moment c.max-self-inside.result c.args.id _ c.index_mut.result.now moment numbered c.requires.least most
    c.index_mut.ensures.value refl
    ∙ ap (λ p. changed c.args.id (retired_at (max p.newest c.args.moment)) p.granted) c.self.view_is)
