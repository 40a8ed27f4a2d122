use Rattle.std.proofs.Common.{◌≡◌, ℕ, IfNone, false, refl, sym, subst, ◌∙◌}
use Rattle.ds_domain_base.specs.declared.contract.Contract.{Contract}
use Rattle.ds_quotes.specs.Fields.{AreThose, is_allowed}
use Rattle.ds_quotes.specs.Quotes.{IsSaleable}
use Rattle.ds_quotes.proofs.QuoteLaws.{count-none, count-some, count-value, downward, no-field, quoted-none}
use Rattle.ds_quotes.proofs.quote.greatest_on.Goals as goal

pub returns-in_err-values-clause-value : goal.returns-in_err-values-clause-value
returns-in_err-values-clause-value c =
    let t = c.args.beside.now.table in
    let own = c.args.beside.now.contract in
    let none = subst (λ (k : Contract). (value : ℕ) → is_allowed c.args.field k.terms value ≡ false) c.contract-contract.ensures.value c.in_err-values.ensures.none in
    c.from_residual.ensures ∙ sym (quoted-none t own c.args.field (no-field t own c.args.field none))

pub returns-in_err-values-clause-none : goal.returns-in_err-values-clause-none
returns-in_err-values-clause-none c =
    let none = subst (λ (k : Contract). (value : ℕ) → is_allowed c.args.field k.terms value ≡ false) c.contract-contract.ensures.value c.in_err-values.ensures.none in
    subst (λ o. IfNone o ((value : ℕ) → ¬ IsSaleable c.args.beside.now.table c.args.beside.now.contract c.args.field value)) (sym c.from_residual.ensures)
    (no-field c.args.beside.now.table c.args.beside.now.contract c.args.field none)

pub passing_below-count-requires-clause-downward : goal.passing_below-count-requires-clause-downward
passing_below-count-requires-clause-downward c =
    let values = c.in_ok-values in
    let those = subst (λ (k : Contract). AreThose values.values.least values.values.most (is_allowed c.args.field k.terms)) c.contract-contract.ensures.value values.ensures.some in
    downward c.args.beside.now.table c.args.beside.now.contract c.args.field values.values.least values.values.most _ c.contract-contract.ensures.acceptable those refl

pub returns-clause-value : goal.returns-clause-value
returns-clause-value c =
    let values = c.in_ok-values in
    let those = subst (λ (k : Contract). AreThose values.values.least values.values.most (is_allowed c.args.field k.terms)) c.contract-contract.ensures.value values.ensures.some in
    count-value c.args.beside.now.table c.args.beside.now.contract c.args.field values.values.least values.values.most c.passing_below-count.result c.last_of.result those values.ensures.within
    c.passing_below-count.ensures c.last_of.ensures

pub returns-clause-some : goal.returns-clause-some
returns-clause-some c =
    let values = c.in_ok-values in
    let those = subst (λ (k : Contract). AreThose values.values.least values.values.most (is_allowed c.args.field k.terms)) c.contract-contract.ensures.value values.ensures.some in
    count-some c.args.beside.now.table c.args.beside.now.contract c.args.field values.values.least values.values.most c.passing_below-count.result c.last_of.result those
    c.passing_below-count.ensures c.last_of.ensures

pub returns-clause-none : goal.returns-clause-none
returns-clause-none c =
    let values = c.in_ok-values in
    let those = subst (λ (k : Contract). AreThose values.values.least values.values.most (is_allowed c.args.field k.terms)) c.contract-contract.ensures.value values.ensures.some in
    count-none c.args.beside.now.table c.args.beside.now.contract c.args.field values.values.least values.values.most c.passing_below-count.result c.last_of.result those
    c.passing_below-count.ensures c.last_of.ensures
