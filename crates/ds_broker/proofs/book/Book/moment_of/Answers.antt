use Rattle.std.proofs.Common.{◌≡◌, rules, ap, ◌∙◌, max}
use Rattle.ds_broker.specs.Books.{newest_of}
use Rattle.ds_broker.proofs.book.Book.moment_of.Goals as goal

pub returns : goal.returns
returns c =
    let own : c.max.result ≡ max c.self.inside.newest c.args.at = search rules in
    own ∙ ap (λ newest. max newest c.args.at) (c.self.invariant.newest ∙ ap newest_of c.self.view_is)
