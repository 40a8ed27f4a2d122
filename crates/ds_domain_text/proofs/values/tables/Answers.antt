use Rattle.toml.specs.Data.{as_table}
use Rattle.ds_domain_text.proofs.ArrayLemmas.{each_of-none_done, each_of-turn}
use Rattle.ds_domain_text.proofs.values.tables.Goals as goal

pub loop-item-init : goal.loop-item-init
loop-item-init c = each_of-none_done _ _ _ c.new-tables.ensures.items

pub loop-item-preserved : goal.loop-item-preserved
loop-item-preserved c =
    each_of-turn as_table _ c.deref-item-items.result.now c.loop-item.item-index c.item-item.result c.loop-item.tables.items c.push.new.self.items c.in-Some-as_table.table c.loop-item-test.true c.item-item.is c.in-Some-as_table.ensures c.in-Ok.ensures.items c.loop-item.invariant
