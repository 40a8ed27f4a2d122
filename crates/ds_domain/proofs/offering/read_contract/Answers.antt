use Rattle.std.proofs.Common.{◌≡◌, Err, Some, sym, ap, ◌∙◌, inr}
use Rattle.toml.specs.Parse.{parse_value}
use Rattle.toml.specs.View.{view}
use Rattle.ds_domain.specs.OfferedTexts.{contract_said}
use Rattle.ds_domain.proofs.ParseLemmas.{contract_said-other, contract_said-value, with_text}
use Rattle.ds_domain.proofs.offering.read_contract.Goals as goal

pub returns-in_default-clause-refused : goal.returns-in_default-clause-refused
returns-in_default-clause-refused c =
    inr (contract_said-other c.args.domain.now c.args.offers.now c.args.line.now c.in_default.ensures.cases.0 ∙ ap Err (sym c.no_text.ensures))

pub returns-in-Ok-from_str-clause-ok : goal.returns-in-Ok-from_str-clause-ok
returns-in-Ok-from_str-clause-ok c =
    let read : parse_value c.args.line.now ≡ Some (view c.in-Ok-from_str.value) = ap parse_value (sym c.in-Ok.ensures.cases.0) ∙ c.in-Ok-from_str.ensures.ok in
    let told = contract_said-value c.args.domain.now c.args.offers.now c.args.line.now (view c.in-Ok-from_str.value) c.in-Ok.ensures.cases.1 read in
    rw told c.told.ensures.ok

pub returns-in-Ok-from_str-clause-refused : goal.returns-in-Ok-from_str-clause-refused
returns-in-Ok-from_str-clause-refused c =
    let read : parse_value c.args.line.now ≡ Some (view c.in-Ok-from_str.value) = ap parse_value (sym c.in-Ok.ensures.cases.0) ∙ c.in-Ok-from_str.ensures.ok in
    let told = contract_said-value c.args.domain.now c.args.offers.now c.args.line.now (view c.in-Ok-from_str.value) c.in-Ok.ensures.cases.1 read in
    with_text c.args.line.now (contract_said c.args.domain.now c.args.offers.now c.args.line.now) c.told.result c.in-Ok.ensures.cases.1 (rw told c.told.ensures.refused)
