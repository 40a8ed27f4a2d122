use Rattle.std.proofs.Common.{map, ap}
use Rattle.std.proofs.lemmas.Result.{err_from_is_err_and}
use Rattle.toml.specs.View.{table_view}
use Rattle.ds_domain.specs.SectionViews.{tables_of}
use Rattle.ds_domain.proofs.ParseLemmas.{parts_of-refused}
use Rattle.ds_domain.proofs.parsing.parts_of.Goals as goal

pub returns-in_err-contracts-clause-refused : goal.returns-in_err-contracts-clause-refused
returns-in_err-contracts-clause-refused c =
    let p = err_from_is_err_and c.from_residual-in_err-contracts.result c.from_residual-in_err-contracts.ensures.1 in
    rw (p.1, p.2) (parts_of-refused c.args.version (tables_of c.args.sections.now) c.in_ok-domain.domain _
    c.in_err-contracts.field-0.0 c.in_ok-domain.ensures.ok
    (ap (map (λ table. table_view table.now)) c.as_slice.ensures.value) c.in_err-contracts.ensures.refused)
