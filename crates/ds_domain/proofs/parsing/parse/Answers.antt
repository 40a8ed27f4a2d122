use Rattle.std.proofs.Common.{◌≡◌, Err, Some, sym, ap, ◌∙◌, inr}
use Rattle.toml.specs.Parse.{parse_document}
use Rattle.toml.specs.View.{table_view}
use Rattle.ds_domain.specs.DomainTexts.{parse_of}
use Rattle.ds_domain.proofs.ParseLemmas.{parse_of-other, parse_of-document, with_text}
use Rattle.ds_domain.proofs.parsing.parse.Goals as goal

pub returns-in_default-clause-refused : goal.returns-in_default-clause-refused
returns-in_default-clause-refused c = inr (parse_of-other c.args.bytes.now c.in_default.ensures.cases.0 ∙ ap Err (sym c.no_text.ensures))

pub returns-in-Ok-table_from_str-clause-ok : goal.returns-in-Ok-table_from_str-clause-ok
returns-in-Ok-table_from_str-clause-ok c =
    let read : parse_document c.args.bytes.now ≡ Some (table_view c.in-Ok-table_from_str.table) = ap parse_document (sym c.in-Ok.ensures.cases.0) ∙ c.in-Ok-table_from_str.ensures.ok in
    let told = parse_of-document c.args.bytes.now (table_view c.in-Ok-table_from_str.table) c.in-Ok.ensures.cases.1 read in
    rw told c.document_of.ensures.ok

pub returns-in-Ok-table_from_str-clause-refused : goal.returns-in-Ok-table_from_str-clause-refused
returns-in-Ok-table_from_str-clause-refused c =
    let read : parse_document c.args.bytes.now ≡ Some (table_view c.in-Ok-table_from_str.table) = ap parse_document (sym c.in-Ok.ensures.cases.0) ∙ c.in-Ok-table_from_str.ensures.ok in
    let told = parse_of-document c.args.bytes.now (table_view c.in-Ok-table_from_str.table) c.in-Ok.ensures.cases.1 read in
    with_text c.args.bytes.now (parse_of c.args.bytes.now) c.document_of.result c.in-Ok.ensures.cases.1 (rw told c.document_of.ensures.refused)
