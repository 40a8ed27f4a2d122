use Rattle.std.proofs.Common.{◌≡◌, false, rules, sym, subst, ◌∙◌}
use Rattle.ds_broker.specs.Books.{held_of}
use Rattle.ds_broker.specs.Found.{IsFound}
use Rattle.ds_broker.proofs.RefusalLaws.{release-passed}
use Rattle.ds_broker.proofs.book.Book.releasable.Goals as goal

pub returns-clause-found : goal.returns-clause-found
returns-clause-found c =
    let not_yet : c.in-Some.released ≡ false = search rules in
    subst (IsFound c.args.id (held_of c.args.self.now) c.in-Some.place) not_yet c.in-Some.ensures.found

pub returns-clause-unrefused : goal.returns-clause-unrefused
returns-clause-unrefused c =
    let not_yet : c.in-Some.released ≡ false = search rules in
    let full = sym c.is_history_full.ensures.value ∙ c.if-is_history_full.false in
    release-passed c.args.self.now c.args.id c.in-Some.place c.in-Some.released c.in-Some.ensures.found not_yet full
