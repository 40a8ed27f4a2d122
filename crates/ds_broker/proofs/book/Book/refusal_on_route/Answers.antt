use Rattle.std.proofs.Common.{sym, ap, option_map, refl, ◌∙◌}
use Rattle.ds_broker.specs.Books.{moment_in}
use Rattle.ds_broker.specs.declared.refusal.BrokerRefusal.TheVariants.{Checker}
use Rattle.ds_broker.proofs.RefusalLaws.{room-clear}
use Rattle.ds_broker.proofs.TableLaws.{checked-refusal}
use Rattle.ds_broker.proofs.book.Book.refusal_on_route.Goals as goal

pub returns-in-Some-clause-value : goal.returns-in-Some-clause-value
returns-in-Some-clause-value c =
    let b = c.args.self.now in
    let k = c.args.contract.now in
    let since = moment_in b k.lifetime.since in
    let roomy = room-clear b k c.requires.good (sym c.is_table_full.ensures ∙ c.if-is_table_full.false) (sym c.is_history_full.ensures.value ∙ c.if-is_history_full.false) in
    sym (checked-refusal b k _ since roomy c.table.ensures.value refl
    ∙ ap (λ o. option_map Checker o) (sym (c.refusal_on_route.ensures.value (record k.lifetime { since = since })) ∙ c.in-Some.is))

pub returns-in-None-clause-value : goal.returns-in-None-clause-value
returns-in-None-clause-value c =
    let b = c.args.self.now in
    let k = c.args.contract.now in
    let since = moment_in b k.lifetime.since in
    let roomy = room-clear b k c.requires.good (sym c.is_table_full.ensures ∙ c.if-is_table_full.false) (sym c.is_history_full.ensures.value ∙ c.if-is_history_full.false) in
    sym (checked-refusal b k _ since roomy c.table.ensures.value refl
    ∙ ap (λ o. option_map Checker o) (sym (c.refusal_on_route.ensures.value (record k.lifetime { since = since })) ∙ c.in-None.is))
