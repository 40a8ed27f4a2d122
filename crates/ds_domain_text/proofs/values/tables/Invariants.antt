use Rattle.std.proofs.Common.{◌≡◌, drop, map}
use Rattle.toml.specs.Data.{as_table}
use Rattle.toml.specs.View.{items_view, table_view}
use Rattle.ds_domain_text.specs.Values.{each_of}
use Rattle.ds_domain_text.proofs.ArrayLemmas.{with_rest}
use Rattle.ds_domain_text.proofs.values.tables.Given as goal

abbrev pub invariant-loop-item : goal.invariant-loop-item
invariant-loop-item l =
    with_rest (map (λ table. table_view table.now) l.tables.items) (each_of as_table (items_view (drop l.item-index l.item-items))) ≡ each_of as_table (items_view l.item-items)
