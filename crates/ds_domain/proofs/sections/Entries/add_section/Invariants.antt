use Rattle.std.proofs.Common.{◌≡◌, drop, map}
use Rattle.toml.specs.View.{table_view}
use Rattle.ds_domain.specs.Sections.{in_turn, section_in}
use Rattle.ds_domain.proofs.sections.Entries.add_section.Given as goal

abbrev pub invariant-loop-table : goal.invariant-loop-table
invariant-loop-table g l =
    in_turn (g.Self.Entries.with_entry l.self) l.whole (map (λ table. table_view table.now) (drop l.table-index l.tables))
    ≡ section_in l.fn.field l.fn.most (g.Self.Entries.with_entry l.self) l.initial.whole (map (λ table. table_view table.now) l.tables)
