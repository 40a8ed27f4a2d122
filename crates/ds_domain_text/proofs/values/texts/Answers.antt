use Rattle.toml.specs.Data.{as_str}
use Rattle.ds_domain_text.proofs.ArrayLemmas.{each_of-none_done, each_of-turn}
use Rattle.ds_domain_text.proofs.values.texts.Goals as goal

pub loop-item-init : goal.loop-item-init
loop-item-init c = each_of-none_done _ _ _ c.new-texts.ensures.items

pub loop-item-preserved : goal.loop-item-preserved
loop-item-preserved c =
    each_of-turn as_str _ c.deref-item-items.result.now c.loop-item.item-index c.item-item.result c.loop-item.texts.items c.push.new.self.items c.in-Some-as_str.text c.loop-item-test.true c.item-item.is c.in-Some-as_str.ensures c.in-Ok.ensures.items c.loop-item.invariant
