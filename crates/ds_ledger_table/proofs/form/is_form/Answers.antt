use Rattle.std.proofs.Common.{◌≡◌, ◌∙◌, List, [], ◌∷◌, ap, get_or}
use Rattle.sqlite.specs.Schema.{Schema}
use Rattle.sqlite_schema.specs.declared.schema.View.{View}
use Rattle.ds_ledger_table.specs.Form.{held_view}
use Rattle.ds_ledger_table.proofs.form.is_form.Goals as goal

pub returns-then-is_table-2-clause-all : goal.returns-then-is_table-2-clause-all
returns-then-is_table-2-clause-all c is =
    let views : c.as_slice-views.result.now ≡ held_view ∷ [] = c.as_slice-views.ensures ∙ ap (λ (s : Schema). s.views) is in
    c.is_view.ensures.1 (c.index-views-0.is ∙ ap (λ (l : List View). get_or l 0 c.index-views-0.result) views)
